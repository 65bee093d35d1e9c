use Rattle.std.proofs.Common.{refl, lit<, rules}
use Rattle.crc.specs.Check.{link_check}
use Rattle.crc.proofs.Inject.{one_byte}
use Rattle.crc.proofs.link.link_check.Goals as goal

pub returns : goal.returns
unfolding link_check
returns c =
    record {
      value = c.run.ensures;
      shows = λ i y h fits same. one_byte 15 0x8005 refl (lit< tt) 8 refl 0 _ i y (lit< tt) h (search rules) fits same;
    }
