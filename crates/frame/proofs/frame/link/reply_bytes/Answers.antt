use Rattle.std.proofs.Common.{rules}
use Rattle.frame.specs.Form.{link_byte}
use Rattle.frame.proofs.Made.{made_list}
use Rattle.frame.proofs.frame.link.reply_bytes.Goals as goal

pub returns : goal.returns
returns c = made_list _ _ (link_byte c.args.reply) (λ i y q k. search rules) c.from_fn.result 0 128 c.from_fn.ensures.items
