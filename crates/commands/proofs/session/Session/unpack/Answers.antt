use Rattle.std.proofs.Common.{◌≡◌, length, replicate, vec_items, ap, ◌∙◌, arith, rules}
use lib.ListN.{length-replicate}
use Rattle.std.proofs.lemmas.List.{with_items_is}
use Rattle.std.specs.Vec.{with_items}
use Rattle.frame.specs.Unpacking.{unpacking, unpacked_into}
use Rattle.commands.specs.Session.{unpack_answer}
use Rattle.commands.proofs.session.Session.unpack.Goals as goal

pub returns : goal.returns
returns c =
    let made = c.in_ok-buffer.buffer in
    let filled : vec_items made ≡ replicate c.args.size 0xEE = search rules in
    let before = c.as_mut_slice.ensures.value ∙ filled in
    let long = ap length before ∙ length-replicate c.args.size 0xEE in
    let frame = c.in_ok-frame.frame in
    let left = c.unpack-result.new.buffer in
    let buffer = with_items made left in
    let told = c.unpack-result.ensures in
    let current = c.in_ok-frame.ensures in
    rw current (
      buffer,
      c.unpacked.ensures ∙ ap (λ r. unpack_answer r buffer) (told.answer ∙ ap (unpacking frame) long),
      with_items_is made left (omega arith) ∙ told.after ∙ ap (unpacked_into frame) before,
    )
