-- Lists that a closure makes, number by number.
use Rattle.std.proofs.Common.{◌≡◌, ℕ, zero, suc, ◌+◌, ◌-◌, ◌<◌, List, map, get_or, sym, ap, ◌∙◌, subst, inl, inr, not-suc-le-zero, arith}
use Rattle.std.proofs.lemmas.Bool.{cases_eq}
use Rattle.std.specs.Array.{IsFromFnResult, IsFromFnResultFrom}
use Rattle.std.specs.Fn.{Called}
use Rattle.std.specs.List.{range_with_len}
use Rattle.std.proofs.lemmas.List.FromFn.{fill_by_all}
use denote.Param.Members.{Mut}

-- a closure that stays as it is and gives the value of each number
module _ {F B : Type 0} (g : Mut F (ℕ × Unit {0}) B) (f : F) (value : ℕ → B) (gives : (i : ℕ) (y : B) (q : F) → Called g f (i, tt) y q → (q ≡ f) × (y ≡ value i)) where
  made_from : (ys : List B) (blank : B) (i n : ℕ) → IsFromFnResultFrom g f ys i n → (k : ℕ) → k < n → get_or ys (i + k) blank ≡ value (i + k)
  made_from ys blank i zero r k h = absurd (not-suc-le-zero h)
  made_from ys blank i (suc n) r k h =
      let e = gives i r.1 r.0 r.3 in
      let rest = made_from ys blank (i + 1) n (subst (λ p. IsFromFnResultFrom g p ys (i + 1) n) e.0 r.4) in
      elim (cases_eq k 0) [
        | inl z ↦ let at : i + k ≡ i = omega arith in ap (λ j. get_or ys j blank) at ∙ r.2.1 blank ∙ e.1 ∙ sym (ap value at)
        | inr nz ↦ let at : i + 1 + (k - 1) ≡ i + k = omega arith in subst (λ j. get_or ys j blank ≡ value j) at (rest (k - 1) (omega arith))
      ]

  pub made_list : (ys : List B) (blank : B) (n : ℕ) → IsFromFnResult g f ys n → ys ≡ map value (range_with_len 0 n)
  made_list ys blank n r = fill_by_all value ys n blank r.long (λ k h. let at : 0 + k ≡ k = omega arith in subst (λ j. get_or ys j blank ≡ value j) at (made_from ys blank 0 n r.each k h))
