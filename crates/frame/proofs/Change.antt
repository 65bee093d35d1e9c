-- One byte of a frame is changed: which units see it.
use Rattle.std.proofs.Common.{◌≡◌, ℕ, zero, suc, ◌+◌, ◌-◌, ◌*◌, ◌/◌, ◌%◌, ◌<◌, ◌≤◌, ◌⊎◌, List, ◌++◌, length, get_or, take, drop, set, replicate, sym, refl, ap, ◌∙◌, subst, ap₂, inl, inr, arith, lit<}
use lib.Seq.{take-set-lt}
use Rattle.std.proofs.lemmas.List.{length-take, length-drop, length-append, length-set, set-set, set_comm, set-append_left, set-append_right, take-set-le, drop-set-lt, drop-set-add, get_or_append_left, get_or-append_right, get_or-take, get_or-drop}
use Rattle.std.proofs.lemmas.Bool.{cases_lt}
use Rattle.crc.specs.Check.{run}
use Rattle.frame.specs.Units.{counted, unit_part, unit_bytes, unit_check}
use Rattle.crc.proofs.Inject.{one_byte}
use Rattle.frame.proofs.Window.{counted_length, counted_mid}

module _ (xs : List ℕ) (i y : ℕ) (big : 14 < length xs) where
  counted_set : 0 < i → i + 14 < length xs → counted (set xs i y) ≡ set (counted xs) i y
  unfolding counted
  counted_set p h =
      ap (λ n. set (take (n - 14) (set xs i y) ++ replicate 14 0) 0 0) (length-set xs i y)
      ∙ ap (λ (l : List ℕ). set (l ++ replicate 14 0) 0 0) (take-set-lt (length xs - 14) xs i y (omega arith))
      ∙ ap (λ (l : List ℕ). set l 0 0) (sym (set-append_left (take (length xs - 14) xs) (replicate 14 0) i y (simp length-take (omega arith))))
      ∙ set_comm (take (length xs - 14) xs ++ replicate 14 0) i 0 y 0 (omega arith)

  counted_same : (i ≡ 0) ⊎ (length xs ≤ i + 14) → counted (set xs i y) ≡ counted xs
  unfolding counted
  counted_same (inl e) =
      ap (λ n. set (take (n - 14) (set xs i y) ++ replicate 14 0) 0 0) (length-set xs i y)
      ∙ ap (λ n. set (take (length xs - 14) (set xs n y) ++ replicate 14 0) 0 0) e
      ∙ ap (λ (l : List ℕ). set (l ++ replicate 14 0) 0 0) (take-set-lt (length xs - 14) xs 0 y (omega arith))
      ∙ ap (λ (l : List ℕ). set l 0 0) (sym (set-append_left (take (length xs - 14) xs) (replicate 14 0) 0 y (simp length-take (omega arith))))
      ∙ set-set (take (length xs - 14) xs ++ replicate 14 0) 0 y 0
  counted_same (inr h) =
      ap (λ n. set (take (n - 14) (set xs i y) ++ replicate 14 0) 0 0) (length-set xs i y)
      ∙ ap (λ (l : List ℕ). set (l ++ replicate 14 0) 0 0) (take-set-le (length xs - 14) xs i y (omega arith))

module _ (zs : List ℕ) (i y : ℕ) where
  -- a part of w bytes that the place is not in, and one that it is in
  pub part_out : (w at : ℕ) → (i < at) ⊎ (at + w ≤ i) → take w (drop at (set zs i y)) ≡ take w (drop at zs)
  part_out w at (inl h) = ap (take w) (drop-set-lt at zs i y h)
  part_out w at (inr h) =
      let e : i ≡ at + (i - at) = omega arith in
      ap (λ n. take w (drop at (set zs n y))) e ∙ ap (take w) (drop-set-add at zs (i - at) y) ∙ take-set-le w (drop at zs) (i - at) y (omega arith)

  pub part_in : (w at : ℕ) → at ≤ i → i < at + w → take w (drop at (set zs i y)) ≡ set (take w (drop at zs)) (i - at) y
  part_in w at l h =
      let e : i ≡ at + (i - at) = omega arith in
      ap (λ n. take w (drop at (set zs n y))) e ∙ ap (take w) (drop-set-add at zs (i - at) y) ∙ take-set-lt w (drop at zs) (i - at) y (omega arith)

  -- a unit that the place is not of, or the groups before it
  unit_out : (j n : ℕ) → j < 8 → (j ≡ i / 16 % 8 → ⊥) ⊎ (128 * n ≤ i) → unit_bytes (set zs i y) j n ≡ unit_bytes zs j n
  unit_out j zero lt o = refl
  unit_out j (suc n) lt o =
      let o' : (j ≡ i / 16 % 8 → ⊥) ⊎ (128 * n ≤ i) = elim o [ inl f ↦ inl f | inr h ↦ inr (omega arith) ] in
      let p : (i < 128 * n + 16 * j) ⊎ (128 * n + 16 * j + 16 ≤ i) = elim (cases_lt i (128 * n + 16 * j)) [ inl a ↦ inl a | inr b ↦ inr (omega arith) ] in
      ap₂ ◌++◌ (unit_out j n lt o') (part_out 16 (128 * n + 16 * j) p)

unit_length : (zs : List ℕ) (j n : ℕ) → j < 8 → 128 * n ≤ length zs → length (unit_bytes zs j n) ≡ 16 * n
unit_length zs j zero lt h = refl
unit_length zs j (suc n) lt h =
    let ih : length (unit_bytes zs j n) ≡ 16 * n = unit_length zs j n lt (omega arith) in
    simp (length-append, length-take, length-drop) (omega arith)

module _ (zs : List ℕ) (i : ℕ) where
  abbrev seat : ℕ
  seat = 16 * (i / 128) + i % 16

  -- where a place of the frame stands among its unit's bytes
  unit_in : (y n : ℕ) → 128 * n ≤ length zs → i < 128 * n
      → (unit_bytes (set zs i y) (i / 16 % 8) n ≡ set (unit_bytes zs (i / 16 % 8) n) seat y) × (get_or (unit_bytes zs (i / 16 % 8) n) seat 0 ≡ get_or zs i 0)
  unit_in y zero l h = absurd (omega arith)
  unit_in y (suc n) l h =
      let j : ℕ = i / 16 % 8 in
      let lt : j < 8 = omega arith in
      let len : length (unit_bytes zs j n) ≡ 16 * n = unit_length zs j n lt (omega arith) in
      elim (cases_lt i (128 * n)) [
        | inl a ↦
            let ih = unit_in y n (omega arith) a in
            let out : (i < 128 * n + 16 * j) ⊎ (128 * n + 16 * j + 16 ≤ i) = inl (omega arith) in
            let s : seat < length (unit_bytes zs j n) = omega arith in (
              ap₂ ◌++◌ ih.0 (part_out zs i y 16 (128 * n + 16 * j) out) ∙ sym (set-append_left (unit_bytes zs j n) (unit_part zs j n) seat y s),
              get_or_append_left (unit_bytes zs j n) (unit_part zs j n) 0 seat s ∙ ih.1,
            )
        | inr b ↦
            let at : ℕ = 128 * n + 16 * j in
            let lo : at ≤ i = omega arith in
            let hi : i < at + 16 = omega arith in
            let k : seat - 16 * n ≡ i - at = omega arith in
            let q : 16 * n ≤ seat = omega arith in
            let z : at + (i - at) ≡ i = omega arith in (
              ap₂ ◌++◌ (unit_out zs i y j n lt (inr b)) (part_in zs i y 16 at lo hi)
                  ∙ ap (λ m. unit_bytes zs j n ++ set (unit_part zs j n) m y) (sym k)
                  ∙ sym (set-append_right (unit_bytes zs j n) (unit_part zs j n) (16 * n) seat y len q),
              get_or-append_right (unit_bytes zs j n) (unit_part zs j n) (16 * n) seat 0 len q
                  ∙ ap (λ m. get_or (unit_part zs j n) m 0) k
                  ∙ get_or-take 16 (drop at zs) (i - at) 0 (omega arith) ∙ get_or-drop at zs (i - at) 0 ∙ ap (λ m. get_or zs m 0) z,
            )
      ]

module _ (xs : List ℕ) (i y : ℕ) (whole : length xs % 128 ≡ 0) (big : 14 < length xs) where
  pub seen : 0 < i → i + 14 < length xs → get_or xs i 0 < 256 → y < 256 → unit_check (set xs i y) (i / 16 % 8) ≡ unit_check xs (i / 16 % 8) → y ≡ get_or xs i 0
  unfolding unit_check
  seen p h hx hy e =
      let n : ℕ = length xs / 128 in
      let j : ℕ = i / 16 % 8 in
      let zs : List ℕ = counted xs in
      let cl : length zs ≡ length xs = counted_length xs big in
      let u = unit_in zs i y n (omega arith) (omega arith) in
      let ul : length (unit_bytes zs j n) ≡ 16 * n = unit_length zs j n (omega arith) (omega arith) in
      let mid : get_or zs i 0 ≡ get_or xs i 0 = counted_mid xs big i 0 p h in
      let moved : unit_bytes (counted (set xs i y)) j (length (set xs i y) / 128) ≡ set (unit_bytes zs j n) (seat zs i) y =
      ap₂ (λ (l : List ℕ) m. unit_bytes l j (m / 128)) (counted_set xs i y big p h) (length-set xs i y) ∙ u.0 in
      one_byte 7 0xA1 refl (lit< tt) 0 refl 0 (unit_bytes zs j n) (seat zs i) y (lit< tt) (omega arith)
      (subst (λ v. v < 256) (sym (u.1 ∙ mid)) hx) hy (ap (run 8 0xA1 0) (sym moved) ∙ e)
      ∙ u.1 ∙ mid

  pub unseen : (j : ℕ) → j < 8 → (j ≡ i / 16 % 8 → ⊥) → 0 < i → i + 14 < length xs → unit_check (set xs i y) j ≡ unit_check xs j
  unfolding unit_check
  unseen j lt ne p h =
      ap (run 8 0xA1 0)
      (ap₂ (λ (l : List ℕ) m. unit_bytes l j (m / 128)) (counted_set xs i y big p h) (length-set xs i y)
      ∙ unit_out (counted xs) i y j (length xs / 128) lt (inl ne))

  pub uncounted : (j : ℕ) → (i ≡ 0) ⊎ (length xs ≤ i + 14) → unit_check (set xs i y) j ≡ unit_check xs j
  unfolding unit_check
  uncounted j o =
      ap (run 8 0xA1 0) (ap₂ (λ (l : List ℕ) m. unit_bytes l j (m / 128)) (counted_same xs i y big o) (length-set xs i y))
