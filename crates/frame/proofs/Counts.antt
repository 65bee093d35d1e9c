-- The unit checks see only the places that count.
use Rattle.std.proofs.Common.{◌≡◌, ℕ, ◌+◌, ◌/◌, ◌<◌, List, length, get_or, sym, ap, ◌∙◌, ap₂, inl, inr, arith}
use Rattle.std.proofs.lemmas.List.{ext_get_or}
use Rattle.std.proofs.lemmas.Bool.{cases_lt, cases_eq}
use Rattle.crc.specs.Check.{run}
use Rattle.frame.specs.Units.{counted, unit_bytes, unit_check}
use Rattle.frame.proofs.Window.{counted_length, counted_first, counted_mid, counted_last}

module _ (xs ys : List ℕ) (same : length xs ≡ length ys) (big : 14 < length ys)
    (e : (i : ℕ) → 0 < i → i + 14 < length ys → get_or xs i 0 ≡ get_or ys i 0) where
  at : (bigger : 14 < length xs) (i : ℕ) → i < length (counted xs) → get_or (counted xs) i 0 ≡ get_or (counted ys) i 0
  at bigger i h =
      let cl : length (counted xs) ≡ length xs = counted_length xs bigger in
      elim (cases_eq i 0) [
        | inl z ↦ ap (λ k. get_or (counted xs) k 0) z ∙ counted_first xs bigger 0 ∙ sym (counted_first ys big 0) ∙ ap (λ k. get_or (counted ys) k 0) (sym z)
        | inr nz ↦ elim (cases_lt (i + 14) (length ys)) [
          | inl lt ↦ counted_mid xs bigger i 0 (omega arith) (omega arith) ∙ e i (omega arith) lt ∙ sym (counted_mid ys big i 0 (omega arith) lt)
          | inr le ↦ counted_last xs bigger i 0 (omega arith) (omega arith) ∙ sym (counted_last ys big i 0 le (omega arith))
        ]
      ]

  counted_same : counted xs ≡ counted ys
  counted_same =
      let bigger : 14 < length xs = omega arith in
      ext_get_or 0 (counted xs) (counted ys) (counted_length xs bigger ∙ same ∙ sym (counted_length ys big)) (at bigger)

  -- equal at the places that count, equal in every check
  pub units_same : (j : ℕ) → unit_check xs j ≡ unit_check ys j
  unfolding unit_check
  units_same j = ap₂ (λ (l : List ℕ) n. run 8 0xA1 0 (unit_bytes l j (n / 128))) counted_same same
