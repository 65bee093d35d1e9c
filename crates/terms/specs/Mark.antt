-- A mark and its number.
use Rattle.std.specs.Prelude.{ℕ, if◌then◌else◌, Some, None, Option, ◌==◌}
use Rattle.terms.specs.declared.mark.Mark.{Mark}
use Rattle.terms.specs.declared.mark.Mark.TheVariants.{Zero, Data, Control, Three}

-- 1 is data and 2 control; 0 and 3 are sync errors
abbrev pub mark_number : Mark → ℕ
mark_number Zero = 0
mark_number Data = 1
mark_number Control = 2
mark_number Three = 3

-- the mark of a number, which is at most 3
abbrev pub mark_of : ℕ → Option Mark
mark_of n = if n == 0 then Some Zero else if n == 1 then Some Data else if n == 2 then Some Control else if n == 3 then Some Three else None
