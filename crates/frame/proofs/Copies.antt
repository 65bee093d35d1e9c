-- Whole groups, and bytes whose reserved places are zero.
use Rattle.std.proofs.Common.{◌≡◌, ℕ, ◌*◌, ◌/◌, true, cond, List, length, get_or, None, sym, refl, arith}
use Rattle.std.proofs.lemmas.Bool.Decides.{nat_tests}
use Rattle.frame.specs.Packet.{one_of_five, clear_at, lowest_reserved}
use Rattle.frame.specs.Reserved.{reserved, cleared}
use Rattle.frame.proofs.Lowest.{all_right}
use Rattle.frame.proofs.Placed.{is_cleared}
use Rattle.frame.proofs.Protocols.{sized}

-- whole groups are counted by their bytes
pub groups_of : (n : ℕ) → one_of_five n ≡ true → 128 * (n / 128) ≡ n
groups_of n e = omega (arith, (sized n e).whole)

-- bytes whose reserved places are zero
clear_place : (xs : List ℕ) (k : ℕ) → clear_at xs k ≡ true → get_or xs k 0 ≡ cond (reserved (length xs) k) 0 (get_or xs k 0)
clear_place xs k e = grind (arith, nat_tests)

pub clear_is : (xs : List ℕ) → None ≡ lowest_reserved xs → cleared xs ≡ xs
clear_is xs e = sym (is_cleared xs xs refl (λ k h. clear_place xs k (all_right (clear_at xs) (length xs) (sym e) k h)))
