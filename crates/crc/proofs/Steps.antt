use Rattle.std.proofs.Common.{◌≡◌, ℕ, zero, suc, ◌/◌, ◌%◌, ◌^◌, List, [], ◌∷◌, ◌++◌, fold, refl, ap, ◌∙◌, arith}
use Rattle.std.specs.declared.ops.Range.{Range}
use Rattle.std.specs.declared.iter.Rev.{Rev}
use Rattle.std.specs.Iterator.{Drains}
use Rattle.std.specs.Iterator.Adapters.{rev_source, rev_steps}
use Rattle.std.proofs.iter.runs.Sources.{nat_range_steps_back}
use Rattle.std.proofs.lemmas.List.Sums.{fold-append}
use Rattle.crc.specs.Check.{bit_step, bits_run, byte_step, run}

-- the steps at the places that `(0..n).rev()` gives
pub bits_fold : (w p byte n a : ℕ) (xs : List ℕ) (s : Rev (Range ℕ)) → (rev_source s).start ≡ 0 → (rev_source s).end ≡ n
    → Drains (rev_steps nat_range_steps_back) s xs → fold (λ t k. bit_step w p t (byte / 2 ^ k % 2)) a xs ≡ bits_run w p byte n a
bits_fold w p byte zero a [] s z e d = refl
bits_fold w p byte (suc n) a [] s z e (u, (t, y, stop)) = absurd (omega (arith, z, e, stop.1.0, ap (λ (q : Rev (Range ℕ)). (rev_source q).start) y, ap (λ (q : Rev (Range ℕ)). (rev_source q).end) y))
bits_fold w p byte zero a (x ∷ xs) s z e (u, (t, (j, y, more), stop)) = absurd (omega (arith, z, e, y.1.0))
bits_fold w p byte (suc n) a (x ∷ xs) s z e (u, (t, (j, y, more), stop)) =
    let x_is : x ≡ n = omega (arith, e, y.1.1, y.1.2) in
    ap (λ i. fold (λ t k. bit_step w p t (byte / 2 ^ k % 2)) (bit_step w p a (byte / 2 ^ i % 2)) xs) x_is
    ∙ bits_fold w p byte n (bit_step w p a (byte / 2 ^ n % 2)) xs j (y.0 ∙ z) (omega (arith, e, y.1.2)) (u, (t, more, stop))

pub run_append : (w p s : ℕ) (xs ys : List ℕ) → run w p s (xs ++ ys) ≡ run w p (run w p s xs) ys
run_append w p s xs ys = fold-append (byte_step w p) s xs ys
