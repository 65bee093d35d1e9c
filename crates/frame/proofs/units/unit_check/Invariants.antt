use Rattle.std.proofs.Common.{◌≡◌}
use Rattle.crc.specs.Check.{run}
use Rattle.frame.specs.Units.{counted, unit_bytes}
use Rattle.frame.proofs.units.unit_check.Given as goal

abbrev pub invariant-loop-g : goal.invariant-loop-g
invariant-loop-g l = l.check.state ≡ run 8 0xA1 0 (unit_bytes (counted l.bytes) l.unit l.g)
