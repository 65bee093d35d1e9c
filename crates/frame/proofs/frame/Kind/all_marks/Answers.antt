use Rattle.std.proofs.Common.{rules}
use Rattle.frame.specs.Form.{form_mark}
use Rattle.frame.proofs.Made.{made_list}
use Rattle.terms.specs.declared.mark.Mark.TheVariants.{Zero}
use Rattle.frame.proofs.frame.Kind.all_marks.Goals as goal

pub returns : goal.returns
returns c = made_list _ _ (form_mark c.args.self c.args.count) (λ i y q k. search rules) c.from_fn.result Zero 40 c.from_fn.ensures.items
