-- The lowest place at which something is wrong.
use Rattle.std.specs.Prelude.{ℕ, zero, suc, Bool, if◌then◌else◌, Some, None, Option}

-- the first answer, or else the second
abbrev pub or_else : Option ℕ → Option ℕ → Option ℕ
or_else (Some k) o = Some k
or_else None o = o

-- the lowest number below n for which the test fails
unfoldable pub lowest_wrong : (ℕ → Bool) → ℕ → Option ℕ
lowest_wrong right zero = None
lowest_wrong right (suc n) = or_else (lowest_wrong right n) (if right n then None else Some n)
