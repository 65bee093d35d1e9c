-- The unit checks of a frame: what each unit runs over, and its check.
use Rattle.std.specs.Prelude.{ℕ, zero, suc, ◌+◌, ◌-◌, ◌*◌, ◌/◌, List, [], ◌++◌, length, take, drop, replicate, slice_set}
use Rattle.crc.specs.Check.{run}

-- the frame as the unit checks read it: place 0 and the last fourteen places count as zero
unfoldable pub counted : List ℕ → List ℕ
counted xs = slice_set (take (length xs - 14) xs ++ replicate 14 0) 0 0

-- the sixteen bytes of unit j in group g
abbrev pub unit_part : List ℕ → ℕ → ℕ → List ℕ
unit_part xs j g = take 16 (drop (128 * g + 16 * j) xs)

-- those of the first n groups, one after another
abbrev pub unit_bytes : List ℕ → ℕ → ℕ → List ℕ
unit_bytes xs j zero = []
unit_bytes xs j (suc n) = unit_bytes xs j n ++ unit_part xs j n

-- the check of unit j: eight bits, from the state 0
unfoldable pub unit_check : List ℕ → ℕ → ℕ
unit_check xs j = run 8 0xA1 0 (unit_bytes (counted xs) j (length xs / 128))
