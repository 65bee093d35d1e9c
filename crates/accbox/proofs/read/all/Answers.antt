use Rattle.std.proofs.Common.{rules}
use Rattle.accbox.proofs.Reading.{left_more, left_none, left_end}
use Rattle.accbox.proofs.read.all.Goals as goal

pub returns-in_default : goal.returns-in_default
returns-in_default g c = λ parts gives. left_none g.I.Iterator.next_gives c.loop-part.part-iterator c.next.new.self _ parts (rw c.in_default.is at c.in-Some.ensures.steps) (c.loop-part.invariant.2 parts gives)

pub loop-part-preserved : goal.loop-part-preserved
loop-part-preserved g c =
    (search rules, search rules, λ parts gives. left_more g.I.Iterator.next_gives c.loop-part.part-iterator c.next.new.self _ _ c.in-Some-part.part parts (rw c.in-Some-part.is at c.in-Some.ensures.steps) (search rules) (c.loop-part.invariant.2 parts gives))

pub returns : goal.returns
returns g c = λ parts gives. left_end g.I.Iterator.next_gives c.loop-part.part-iterator c.next.new.self _ parts c.in-None.ensures.steps (c.loop-part.invariant.2 parts gives)
