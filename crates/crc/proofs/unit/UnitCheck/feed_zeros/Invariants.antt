use Rattle.std.proofs.Common.{◌≡◌, replicate}
use Rattle.crc.specs.Check.{run}
use Rattle.crc.proofs.unit.UnitCheck.feed_zeros.Given as goal

abbrev pub invariant-loop : goal.invariant-loop
invariant-loop l = l.self.state ≡ run 8 0xA1 l.initial.self.state (replicate l.counter 0)
