-- Bytes and frames that are given place by place.
use Rattle.std.proofs.Common.{◌≡◌, ℕ, ◌/◌, ◌<◌, false, cond, List, length, get_or, sym, ap, ◌∙◌, ap₂, zero-add, arith}
use Rattle.std.proofs.lemmas.List.FromFn.{length-map-range_with_len, get_or-map-range_with_len, fill_by_all}
use Rattle.std.proofs.lemmas.Bool.{cond-true, cond-false, cond_both}
use Rattle.frame.specs.Form.{form_mark, framed}
use Rattle.frame.specs.Frame.{FrameM, byte_at, parted}
use Rattle.frame.specs.Reserved.{reserved, cleared}
use Rattle.frame.specs.declared.frame.Kind.{Kind}
use Rattle.terms.specs.declared.mark.Mark.TheVariants.{Zero}

module _ (xs : List ℕ) where
  pub cleared_long : length (cleared xs) ≡ length xs
  unfolding cleared
  cleared_long = length-map-range_with_len (λ k. cond (reserved (length xs) k) 0 (get_or xs k 0)) 0 (length xs)

  pub cleared_at : (k : ℕ) → k < length xs → get_or (cleared xs) k 0 ≡ cond (reserved (length xs) k) 0 (get_or xs k 0)
  unfolding cleared
  cleared_at k h = get_or-map-range_with_len (λ k. cond (reserved (length xs) k) 0 (get_or xs k 0)) 0 (length xs) k k 0 h (zero-add k)

  pub cleared_free : (k : ℕ) → k < length xs → reserved (length xs) k ≡ false → get_or (cleared xs) k 0 ≡ get_or xs k 0
  cleared_free k h r = cleared_at k h ∙ cond-false (reserved (length xs) k) 0 (get_or xs k 0) r

  pub is_cleared : (ys : List ℕ) → length ys ≡ length xs → ((k : ℕ) → k < length xs → get_or ys k 0 ≡ cond (reserved (length xs) k) 0 (get_or xs k 0)) → ys ≡ cleared xs
  unfolding cleared
  is_cleared ys l e = fill_by_all (λ k. cond (reserved (length xs) k) 0 (get_or xs k 0)) ys (length xs) 0 l e

-- two lists of bytes that differ only at reserved places
pub cleared_same : (xs ys : List ℕ) → length xs ≡ length ys → ((k : ℕ) → k < length ys → reserved (length ys) k ≡ false → get_or xs k 0 ≡ get_or ys k 0) → cleared xs ≡ cleared ys
cleared_same xs ys l e =
    is_cleared ys (cleared xs) (cleared_long xs ∙ l)
    (λ k h.
    cleared_at xs k (omega arith)
    ∙ ap (λ n. cond (reserved n k) 0 (get_or xs k 0)) l
    ∙ cond_both (reserved (length ys) k) 0 (get_or xs k 0) (λ v. v ≡ cond (reserved (length ys) k) 0 (get_or ys k 0))
    (λ r. sym (cond-true (reserved (length ys) k) 0 (get_or ys k 0) r))
    (λ r. e k h r ∙ sym (cond-false (reserved (length ys) k) 0 (get_or ys k 0) r)))

-- clearing again changes nothing
pub cleared_twice : (xs : List ℕ) → cleared (cleared xs) ≡ cleared xs
cleared_twice xs = cleared_same (cleared xs) xs (cleared_long xs) (λ k h r. cleared_free xs k h r)

module _ (kind : Kind) (n : ℕ) (byte : ℕ → ℕ) where
  pub framed_long : length (framed kind n byte).bytes ≡ n
  framed_long = length-map-range_with_len byte 0 n

  pub framed_marks_long : length (framed kind n byte).marks ≡ n / 16
  framed_marks_long = length-map-range_with_len (form_mark kind (n / 16)) 0 (n / 16)

  pub framed_byte : (k : ℕ) → k < n → byte_at (framed kind n byte) k ≡ byte k
  framed_byte k h = get_or-map-range_with_len byte 0 n k k 0 h (zero-add k)

  pub framed_mark : (c : ℕ) → c < n / 16 → get_or (framed kind n byte).marks c Zero ≡ form_mark kind (n / 16) c
  framed_mark c h = get_or-map-range_with_len (form_mark kind (n / 16)) 0 (n / 16) c c Zero h (zero-add c)

  pub is_framed : (f : FrameM) → length f.bytes ≡ n → length f.marks ≡ n / 16
      → ((k : ℕ) → k < n → byte_at f k ≡ byte k)
      → ((c : ℕ) → c < n / 16 → get_or f.marks c Zero ≡ form_mark kind (n / 16) c)
      → f ≡ framed kind n byte
  is_framed f bl ml b m =
      ap₂ parted (fill_by_all byte f.bytes n 0 bl b) (fill_by_all (form_mark kind (n / 16)) f.marks (n / 16) Zero ml m)
