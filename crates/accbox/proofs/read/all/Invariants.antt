use Rattle.std.proofs.Common.{List, Option, vec_items}
use Rattle.std.specs.Iterator.{AlwaysYields}
use Rattle.accbox.proofs.Reading.{Left}
use Rattle.accbox.proofs.read.all.Given as goal

abbrev pub invariant-loop-part : goal.invariant-loop-part
invariant-loop-part g l =
    (goal.iterator-loop-part g).can_next l.part-iterator
    × (goal.iterator-loop-part g).is_finite l.part-iterator
    × ((parts : List (Option g.row.T.Denot)) → AlwaysYields g.I.Iterator.next_gives {B = Option g.row.T.Denot} (λ x. x) l.fn.parts parts → Left g.I.Iterator.next_gives l.part-iterator (vec_items l.all) parts)
