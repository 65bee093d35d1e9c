-- What digits write as marks.
use Rattle.std.specs.Prelude.{ℕ, ◌-◌, if◌then◌else◌, List, [], ◌∷◌, Some, None, Option, nat_le}
use Rattle.terms.specs.Mark.{mark_of}
use Rattle.terms.specs.declared.mark.Mark.{Mark}
use Rattle.accbox.specs.Read.{with_first}

-- the mark of a digit, which is one of 0 to 3
abbrev pub digit_mark : ℕ → Option Mark
digit_mark c = if nat_le 48 c then mark_of (c - 48) else None

-- the mark that a single digit writes
abbrev pub one_mark : List ℕ → Option Mark
one_mark [] = None
one_mark (c ∷ []) = digit_mark c
one_mark (c ∷ more ∷ rest) = None

-- the marks that digits write
abbrev pub all_marks : List ℕ → Option (List Mark)
all_marks [] = Some []
all_marks (c ∷ rest) = with_first (digit_mark c) (all_marks rest)
