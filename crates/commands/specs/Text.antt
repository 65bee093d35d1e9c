-- How what a command asks for is printed.
use Rattle.std.specs.Prelude.{ℕ, List, codes}
use Rattle.commands.specs.declared.command.CarrierKind.{CarrierKind}
use Rattle.commands.specs.declared.command.CarrierKind.TheVariants.{Straight}

abbrev pub carrier_text : CarrierKind → List ℕ
carrier_text Straight = codes "straight"
