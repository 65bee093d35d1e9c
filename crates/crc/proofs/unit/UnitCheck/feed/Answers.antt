use Rattle.std.proofs.Common.{refl, lit<, rules}
use Rattle.crc.proofs.Inject.{run_lt, one_byte}
use Rattle.crc.proofs.unit.UnitCheck.feed.Goals as goal

pub overflow_cast-self : goal.overflow_cast-self
overflow_cast-self c = search (rules, run_lt 7 0xA1 refl (lit< tt))

pub returns-clause-shows : goal.returns-clause-shows
returns-clause-shows c i y h fits same = one_byte 7 0xA1 refl (lit< tt) 0 refl _ _ i y (search rules) h (search rules) fits same
