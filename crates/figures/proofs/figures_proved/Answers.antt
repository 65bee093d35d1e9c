use Rattle.std.proofs.Common.{refl}
use Rattle.crc.specs.Check.{bit_step, byte_step, link_check}
use Rattle.frame.specs.Units.{counted, unit_check}
use Rattle.frame.specs.Form.{protocol_allows, link_allows, protocol_byte, reply_check, link_byte, sealed, reply_frame}
use Rattle.frame.specs.Lowest.{lowest_wrong}
use Rattle.frame.specs.Reading.{reading}
use Rattle.figures.proofs.figures_proved.Goals as goal

pub returns-clause-hold : goal.returns-clause-hold
unfolding bit_step byte_step counted unit_check link_check lowest_wrong protocol_allows link_allows reading protocol_byte reply_check link_byte sealed reply_frame
returns-clause-hold c = (refl, (refl, (refl, (refl, (refl, (refl, (refl, (refl, tt))))))))
