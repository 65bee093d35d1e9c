-- What a unit reads of a frame: a part of it, with the places that count as zero.
use Rattle.std.proofs.Common.{◌≡◌, ℕ, ◌+◌, ◌-◌, ◌*◌, ◌<◌, ◌≤◌, ◌⊎◌, List, ◌++◌, length, get_or, take, drop, replicate, sym, ap, ◌∙◌, inl, inr, add-one, arith, rules}
use Rattle.std.proofs.lemmas.List.{places, same_lists, get_or-take, get_or-drop, length-take, length-drop, length-append, length-set, length-replicate}
use Rattle.frame.specs.Units.{counted, unit_part, unit_bytes}
use Rattle.crc.specs.Check.{run}
use Rattle.crc.proofs.Steps.{run_append}
use Rattle.std.proofs.lemmas.Bool.{cases_lt}

module _ (xs : List ℕ) (big : 14 < length xs) where
  pub counted_length : length (counted xs) ≡ length xs
  unfolding counted
  counted_length = simp (length-take, length-append, length-set, length-replicate) (omega arith)

  pub counted_first : (d : ℕ) → get_or (counted xs) 0 d ≡ 0
  unfolding counted
  counted_first d = search (rules, places)

  pub counted_mid : (i d : ℕ) → 0 < i → i + 14 < length xs → get_or (counted xs) i d ≡ get_or xs i d
  unfolding counted
  counted_mid i d p h = grind (arith, places)

  pub counted_last : (i d : ℕ) → length xs ≤ i + 14 → i < length xs → get_or (counted xs) i d ≡ 0
  unfolding counted
  counted_last i d h l = grind (arith, places)

module _ (lead trail : ℕ) (m : List ℕ) where
  pub pad_first : (k d : ℕ) → k < lead → get_or (replicate lead 0 ++ (m ++ replicate trail 0)) k d ≡ 0
  pad_first k d h = search (rules, places)

  pub pad_mid : (k d : ℕ) → lead ≤ k → k < lead + length m → get_or (replicate lead 0 ++ (m ++ replicate trail 0)) k d ≡ get_or m (k - lead) d
  pad_mid k d h l = search (rules, places)

  pub pad_last : (k d : ℕ) → lead + length m ≤ k → k < lead + length m + trail → get_or (replicate lead 0 ++ (m ++ replicate trail 0)) k d ≡ 0
  pad_last k d h l = search (rules, places)

module _ (xs : List ℕ) (at lead trail : ℕ) (h : at + 16 ≤ length xs) (big : 14 < length xs)
    (l : ((at ≡ 0) × (lead ≡ 1)) ⊎ ((0 < at) × (lead ≡ 0)))
    (t : ((at + 16 ≡ length xs) × (trail ≡ 14)) ⊎ ((at + 30 ≤ length xs) × (trail ≡ 0))) where
  mid_length : length (take (at + 16 - trail - (at + lead)) (drop (at + lead) xs)) ≡ 16 - trail - lead
  mid_length = simp (length-take, length-drop) (omega arith)

  left : (k d : ℕ) → k < 16 → get_or (take 16 (drop at (counted xs))) k d ≡ get_or (counted xs) (at + k) d
  left k d lt = rw (get_or-take, get_or-drop)

  by_place : (k d : ℕ) → k < 16 → get_or (counted xs) (at + k) d ≡ get_or (replicate lead 0 ++ (take (at + 16 - trail - (at + lead)) (drop (at + lead) xs) ++ replicate trail 0)) k d
  by_place k d lt =
      let m : List ℕ = take (at + 16 - trail - (at + lead)) (drop (at + lead) xs) in
      let ml : length m ≡ 16 - trail - lead = mid_length in
      elim (cases_lt k lead) [
        | inl a ↦ ap (λ i. get_or (counted xs) i d) (let z : at + k ≡ 0 = omega arith in z) ∙ counted_first xs big d ∙ sym (pad_first lead trail m k d a)
        | inr b ↦ elim (cases_lt k (lead + length m)) [
          | inl a ↦
              let s : k - lead < at + 16 - trail - (at + lead) = omega arith in
              counted_mid xs big (at + k) d (omega arith) (omega arith)
              ∙ ap (λ i. get_or xs i d) (let z : at + k ≡ at + lead + (k - lead) = omega arith in z)
              ∙ sym (get_or-drop (at + lead) xs (k - lead) d)
              ∙ sym (get_or-take (at + 16 - trail - (at + lead)) (drop (at + lead) xs) (k - lead) d s)
              ∙ sym (pad_mid lead trail m k d b a)
          | inr e ↦ counted_last xs big (at + k) d (omega arith) (omega arith) ∙ sym (pad_last lead trail m k d e (omega arith))
        ]
      ]

  pub window : take 16 (drop at (counted xs)) ≡ replicate lead 0 ++ (take (at + 16 - trail - (at + lead)) (drop (at + lead) xs) ++ replicate trail 0)
  window =
      let cl : length (counted xs) ≡ length xs = counted_length xs big in
      let len : length (take 16 (drop at (counted xs))) ≡ 16 = simp (length-take, length-drop) (omega arith) in
      same_lists _ _ (simp (length-take, length-drop, length-append, length-replicate) (omega arith))
      (λ k d lt. let s : k < 16 = omega arith in left k d s ∙ by_place k d s)

-- one group more of a unit: the leading zeros, the part, the zeros at the end
pub unit_more : (w p : ℕ) (xs : List ℕ) (j g lead trail s s1 s2 s3 : ℕ) → let at : ℕ = 128 * g + 16 * j in
    at + 16 ≤ length xs → 14 < length xs
    → ((at ≡ 0) × (lead ≡ 1)) ⊎ ((0 < at) × (lead ≡ 0))
    → ((at + 16 ≡ length xs) × (trail ≡ 14)) ⊎ ((at + 30 ≤ length xs) × (trail ≡ 0))
    → s ≡ run w p 0 (unit_bytes (counted xs) j g)
    → s1 ≡ run w p s (replicate lead 0)
    → s2 ≡ run w p s1 (take (at + 16 - trail - (at + lead)) (drop (at + lead) xs))
    → s3 ≡ run w p s2 (replicate trail 0)
    → s3 ≡ run w p 0 (unit_bytes (counted xs) j (g + 1))
unit_more w p xs j g lead trail s s1 s2 s3 h big l t e e1 e2 e3 =
    let at : ℕ = 128 * g + 16 * j in
    let m : List ℕ = take (at + 16 - trail - (at + lead)) (drop (at + lead) xs) in
    e3
    ∙ ap (λ x. run w p x (replicate trail 0)) (e2 ∙ ap (λ x. run w p x m) (e1 ∙ ap (λ x. run w p x (replicate lead 0)) e))
    ∙ sym (run_append w p (run w p (run w p 0 (unit_bytes (counted xs) j g)) (replicate lead 0)) m (replicate trail 0))
    ∙ sym (run_append w p (run w p 0 (unit_bytes (counted xs) j g)) (replicate lead 0) (m ++ replicate trail 0))
    ∙ ap (run w p (run w p 0 (unit_bytes (counted xs) j g))) (sym (window xs at lead trail h big l t))
    ∙ sym (run_append w p 0 (unit_bytes (counted xs) j g) (unit_part (counted xs) j g))
    ∙ ap (λ n. run w p 0 (unit_bytes (counted xs) j n)) (sym (add-one g))
