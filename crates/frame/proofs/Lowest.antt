-- When a number is the lowest wrong one, and when there is none.
use Rattle.std.proofs.Common.{◌≡◌, ℕ, zero, suc, ◌+◌, ◌<◌, Bool, true, false, not, cond, List, [], ◌∷◌, length, get_or, Some, None, Option, sym, refl, ap, ◌∙◌, inl, inr, not-suc-le-zero, arith, below_more}
use Rattle.std.specs.List.{position_from, enumerate_from}
use Rattle.std.proofs.lemmas.List.FromFn.{length-enumerate_from, get_or-enumerate_from}
use Rattle.std.proofs.lemmas.Bool.{cases_lt, cases_Bool, cond-true, cond-false}
use Rattle.frame.specs.Lowest.{or_else, lowest_wrong}

module _ (right : ℕ → Bool) where
  -- all are right
  pub none_wrong : (n : ℕ) → ((k : ℕ) → k < n → right k ≡ true) → lowest_wrong right n ≡ None
  unfolding lowest_wrong
  none_wrong zero all = refl
  none_wrong (suc n) all = rw (none_wrong n (λ k h. all k (omega arith)), all n (omega arith))

  -- the lowest, which comes after right ones alone
  pub is_lowest : (n k : ℕ) → k < n → ((i : ℕ) → i < k → right i ≡ true) → right k ≡ false → lowest_wrong right n ≡ Some k
  unfolding lowest_wrong
  is_lowest zero k h below at = absurd (not-suc-le-zero h)
  is_lowest (suc n) k h below at = elim (cases_lt k n) [
    | inl lt ↦ rw (is_lowest n k lt below at)
    | inr le ↦
        let e : k ≡ n = omega arith in
        rw (none_wrong n (λ i l. below i (omega arith)), sym (ap right e) ∙ at, e)
  ]

  one_more : (o : Option ℕ) (b : Bool) (n : ℕ) → or_else o (cond b None (Some n)) ≡ None → (o ≡ None) × (b ≡ true)
  one_more None true n e = (refl, refl)
  one_more None false n e = absurd (let z : ◌≡◌ {A = ℕ} 0 1 = cc in omega arith)
  one_more (Some k) b n e = absurd (let z : ◌≡◌ {A = ℕ} 0 1 = cc in omega arith)

  pub all_right : (n : ℕ) → lowest_wrong right n ≡ None → (k : ℕ) → k < n → right k ≡ true
  unfolding lowest_wrong
  all_right zero e k h = absurd (not-suc-le-zero h)
  all_right (suc n) e k h =
      let p = one_more (lowest_wrong right n) (right n) n e in
      elim (cases_lt k n) [
        | inl lt ↦ all_right n p.0 k lt
        | inr le ↦ let q : k ≡ n = omega arith in ap right q ∙ p.1
      ]

  -- a search along a list ends at the lowest wrong number, if it passes over the right ones
  along : {X : Type 0} (test : X → Bool) (blank : X) (xs : List X) (i n : ℕ) → n ≡ i + length xs
      → ((k : ℕ) → k < length xs → test (get_or xs k blank) ≡ not (right (i + k))) → ((k : ℕ) → k < i → right k ≡ true)
      → position_from test i xs ≡ lowest_wrong right n
  along test blank [] i n e each below = sym (none_wrong n (λ k h. below k (omega arith)))
  along test blank (x ∷ xs) i n e each below =
      let here : test x ≡ not (right i) = each 0 (omega arith) ∙ ap (λ m. not (right m)) (let z : i + 0 ≡ i = omega arith in z) in
      elim (cases_Bool (right i)) [
        | inl r ↦
            cond-false (test x) (Some i) _ (here ∙ ap not r)
            ∙ along test blank xs (i + 1) n (omega arith)
            (λ k h. each (suc k) (omega arith) ∙ ap (λ m. not (right m)) (let z : i + suc k ≡ i + 1 + k = omega arith in z))
            (below_more _ i below r)
        | inr w ↦ cond-true (test x) (Some i) _ (here ∙ ap not w) ∙ sym (is_lowest n i (omega arith) below w)
      ]

  pub searched : {X : Type 0} (test : X → Bool) (blank : X) (xs : List X) → ((k : ℕ) → k < length xs → test (get_or xs k blank) ≡ not (right k))
      → position_from test 0 xs ≡ lowest_wrong right (length xs)
  searched test blank xs each = along test blank xs 0 (length xs) (omega arith) (λ k h. each k h ∙ ap (λ m. not (right m)) (let z : k ≡ 0 + k = omega arith in z)) (λ k h. absurd (omega arith))

  -- the same along numbered items
  pub searched_numbered : {X : Type 0} (test : ℕ × X → Bool) (blank : X) (xs : List X) → ((k : ℕ) → k < length xs → test (k, get_or xs k blank) ≡ not (right k))
      → position_from test 0 (enumerate_from 0 xs) ≡ lowest_wrong right (length xs)
  searched_numbered test blank xs each =
      let l = length-enumerate_from 0 xs in
      searched test (0, blank) (enumerate_from 0 xs)
      (λ k h. ap test (get_or-enumerate_from 0 xs k (0, blank) (omega arith) ∙ ap (λ m. (m, get_or xs k blank)) (let z : 0 + k ≡ k = omega arith in z)) ∙ each k (omega arith))
      ∙ ap (lowest_wrong right) l

  one_below : {n k : ℕ} (o : Option ℕ) (b : Bool) → ((i : ℕ) → o ≡ Some i → i < suc n) → Some k ≡ or_else o (cond b None (Some n)) → k < suc n
  one_below {n} {k} (Some i) b below e = let z : k ≡ i = cc in omega (arith, below i refl)
  one_below {n} {k} None true below e = absurd (let z : ◌≡◌ {A = ℕ} 0 1 = cc in omega arith)
  one_below {n} {k} None false below e = let z : k ≡ n = cc in omega arith

  -- the lowest wrong number is one of those looked at
  pub lowest_below : (n k : ℕ) → Some k ≡ lowest_wrong right n → k < n
  unfolding lowest_wrong
  lowest_below zero k e = absurd (let z : ◌≡◌ {A = ℕ} 0 1 = cc in omega arith)
  lowest_below (suc n) k e = one_below (lowest_wrong right n) (right n) (λ i l. let h : i < n = lowest_below n i (sym l) in omega arith) e
