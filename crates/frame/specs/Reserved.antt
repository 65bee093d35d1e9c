-- The reserved places of a packet of n bytes: 0, 1 and the last fourteen.
use Rattle.std.specs.Prelude.{ℕ, ◌+◌, Bool, if◌then◌else◌, ◌||◌, List, map, length, nat_le, nat_lt, slice_index}
use Rattle.std.specs.List.{range_with_len}

unfoldable pub reserved : ℕ → ℕ → Bool
reserved n k = nat_lt k 2 || nat_le n (k + 14)

-- the bytes with zero at every reserved place
unfoldable pub cleared : List ℕ → List ℕ
cleared xs = map (λ k. if reserved (length xs) k then 0 else slice_index xs k) (range_with_len 0 (length xs))
