use Rattle.std.proofs.Common.{take, ap, ◌∙◌}
use Rattle.std.proofs.lemmas.List.FromFn.{take-map-range_with_len}
use Rattle.frame.specs.Form.{form_mark}
use Rattle.frame.specs.Room.{in_room}
use Rattle.terms.specs.declared.mark.Mark.TheVariants.{Zero}
use Rattle.frame.proofs.frame.Kind.marks.Goals as goal

pub returns : goal.returns
returns c =
    c.in_room.ensures
    ∙ ap (in_room 40 Zero)
    (ap (take c.args.count) c.all_marks.ensures ∙ take-map-range_with_len (form_mark c.args.self c.args.count) 0 40 c.args.count c.requires)
