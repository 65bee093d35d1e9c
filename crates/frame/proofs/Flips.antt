-- One flipped byte breaks a good frame.
use Rattle.std.proofs.Common.{◌≡◌, ℕ, ◌+◌, ◌-◌, ◌*◌, ◌/◌, ◌%◌, ◌<◌, ◌≤◌, ◌⊎◌, List, length, get_or, take, drop, set, sym, refl, ap, ◌∙◌, subst, ap₂, inl, inr, div-add-mod', arith, lit<}
use lib.Bits.{bit_xor, xor_lt, xor_zero_r}
use Rattle.std.proofs.lemmas.List.{length-set, length-take, length-drop, get_or-set_same, get_or-set_other, get_or-take, get_or-drop}
use Rattle.std.proofs.lemmas.Bool.{cases_lt, cases_eq}
use Rattle.std.proofs.lemmas.Bool.Decides.{nat_tests}
use Rattle.crc.specs.Check.{run, link_check}
use Rattle.frame.specs.Form.{form_mark, reply_check, link_byte, reply_frame}
use Rattle.frame.specs.Frame.{FrameM, Grouped, byte_at, flipped}
use Rattle.terms.specs.Mark.{mark_number}
use Rattle.frame.specs.Reading.{Good, packet, reply, Broken}
use Rattle.frame.specs.declared.frame.Kind.TheVariants.{Protocol}
use Rattle.terms.specs.declared.mark.Mark.{Mark}
use Rattle.terms.specs.declared.mark.Mark.TheVariants.{Zero, Data}
use Rattle.terms.specs.declared.reply.Reply.{Reply}
use Rattle.frame.proofs.Change.{part_out, part_in, seen, uncounted}
use Rattle.crc.proofs.Inject.{xor_inj_r, one_byte}
use Rattle.frame.proofs.Links.{LinkForm, reply_byte, reply_long, reply_form, word_is, byte_low, byte_high}
use Rattle.frame.proofs.Protocols.{ProtocolForm, sealed_form, allowed_start, allowed_end}

-- the byte at k replaced by y, where the length is that of whole groups
module _ (xs : List ℕ) (k y : ℕ) (whole : length xs % 128 ≡ 0) (some : 128 ≤ length xs) (in' : k < length xs) where
  abbrev ys : List ℕ
  ys = set xs k y

  at_other : (i : ℕ) → (i ≡ k → ⊥) → get_or ys i 0 ≡ get_or xs i 0
  at_other i ne = get_or-set_other xs k i y 0 ne

  at_same : get_or ys k 0 ≡ y
  at_same = get_or-set_same xs k y 0 in'

  -- two protocol frames that differ in one byte at most do not differ
  module _ (ms ns : List Mark) (old : ProtocolForm (record { bytes = xs; marks = ms })) (new : ProtocolForm (record { bytes = set xs k y; marks = ns })) (was : get_or xs k 0 < 256) (fits : y < 256) where
    len : length ys ≡ length xs
    len = length-set xs k y

    -- a place whose check byte stands elsewhere
    in_unit : 0 < k → k + 14 < length xs → y ≡ get_or xs k 0
    in_unit p h =
        let j : ℕ = k / 16 % 8 in
        let lt : j < 8 = omega arith in
        seen xs k y whole (omega arith) p h was fits
        (sym (new.units j lt)
        ∙ ap (λ n. get_or ys (n - 14 + j) 0) len
        ∙ at_other (length xs - 14 + j) (λ e. omega arith)
        ∙ old.units j lt)

    -- a check byte
    in_checks : length xs ≤ k + 14 → k + 6 < length xs → y ≡ get_or xs k 0
    in_checks l h =
        let j : ℕ = k + 14 - length xs in
        let lt : j < 8 = omega arith in
        let at : length xs - 14 + j ≡ k = omega arith in
        sym at_same
        ∙ ap (λ i. get_or ys i 0) (sym at)
        ∙ ap (λ n. get_or ys (n - 14 + j) 0) (sym len)
        ∙ new.units j lt
        ∙ uncounted xs k y whole (omega arith) j (inr l)
        ∙ sym (old.units j lt)
        ∙ ap (λ i. get_or xs i 0) at

    in_start : k ≡ 0 → y ≡ get_or xs k 0
    in_start z =
        sym at_same ∙ ap (λ i. get_or ys i 0) z
        ∙ allowed_start (length ys) (get_or ys 0 0) (new.bytes 0 (omega (arith, len)))
        ∙ sym (allowed_start (length xs) (get_or xs 0 0) (old.bytes 0 (omega arith)))
        ∙ ap (λ i. get_or xs i 0) (sym z)

    in_end : length xs ≤ k + 6 → y ≡ get_or xs k 0
    in_end l =
        sym at_same
        ∙ allowed_end (length ys) k (get_or ys k 0) (omega arith) (omega (arith, len)) (new.bytes k (omega (arith, len)))
        ∙ sym (allowed_end (length xs) k (get_or xs k 0) (omega arith) l (old.bytes k in'))

    pub same_protocol : y ≡ get_or xs k 0
    same_protocol = elim (cases_eq k 0) [
      | inl z ↦ in_start z
      | inr nz ↦ elim (cases_lt (k + 14) (length xs)) [
        | inl mid ↦ in_unit (omega arith) mid
        | inr late ↦ elim (cases_lt (k + 6) (length xs)) [ inl unit ↦ in_checks late unit | inr end ↦ in_end end ]
      ]
    ]

-- outside those six places a reply frame holds what is fixed, or the check
outside_word : (r s : Reply) (k : ℕ) → (k < 8) ⊎ (14 ≤ k) → reply_check r ≡ reply_check s → link_byte r k ≡ link_byte s k
unfolding link_byte
outside_word r s k (inl h) e = grind (arith, nat_tests)
outside_word r s k (inr h) e = grind (arith, nat_tests)

same_check : (a b : ℕ) → a % 256 ≡ b % 256 → a / 256 ≡ b / 256 → a ≡ b
same_check a b low high = sym (div-add-mod' a 256) ∙ ap₂ (λ q m. q * 256 + m) high low ∙ div-add-mod' b 256

-- two reply frames that differ in one byte at most do not differ
module _ (r s : Reply) (xs : List ℕ) (k y : ℕ) (long : length xs ≡ 128) (in' : k < 128) (was : get_or xs k 0 < 256) (fits : y < 256)
    (old : (i : ℕ) → i < 128 → get_or xs i 0 ≡ link_byte r i) (new : (i : ℕ) → i < 128 → get_or (set xs k y) i 0 ≡ link_byte s i) where
  word_old : link_check (take 6 (drop 8 xs)) ≡ reply_check r
  word_old = word_is r xs long (λ i _ h. old i (omega arith))

  word_new : link_check (take 6 (drop 8 (set xs k y))) ≡ reply_check s
  word_new = word_is s (set xs k y) (length-set xs k y ∙ long) (λ i _ h. new i (omega arith))

  there : get_or (set xs k y) k 0 ≡ y
  there = get_or-set_same xs k y 0 (omega arith)

  elsewhere : (i : ℕ) → i < 128 → (i ≡ k → ⊥) → link_byte s i ≡ link_byte r i
  elsewhere i h ne = sym (new i h) ∙ get_or-set_other xs k i y 0 ne ∙ old i h

  in_word : 8 ≤ k → k < 14 → y ≡ get_or xs k 0
  unfolding link_check
  in_word l h =
      let low : reply_check s % 256 ≡ reply_check r % 256 = sym (byte_low s) ∙ elsewhere 14 (lit< tt) (λ e. omega arith) ∙ byte_low r in
      let high : reply_check s / 256 ≡ reply_check r / 256 = sym (byte_high s) ∙ elsewhere 15 (lit< tt) (λ e. omega arith) ∙ byte_high r in
      let e : run 16 0x8005 0 (take 6 (drop 8 (set xs k y))) ≡ run 16 0x8005 0 (take 6 (drop 8 xs)) = word_new ∙ same_check (reply_check s) (reply_check r) low high ∙ sym word_old in
      let w : List ℕ = take 6 (drop 8 xs) in
      let at : get_or w (k - 8) 0 ≡ get_or xs k 0 = get_or-take 6 (drop 8 xs) (k - 8) 0 (omega arith) ∙ get_or-drop 8 xs (k - 8) 0 ∙ ap (λ i. get_or xs i 0) (let z : 8 + (k - 8) ≡ k = omega arith in z) in
      one_byte 15 0x8005 refl (lit< tt) 8 refl 0 w (k - 8) y (lit< tt) (simp (length-take, length-drop) (omega arith))
      (subst (λ v. v < 256) (sym at) was) fits (ap (run 16 0x8005 0) (sym (part_in xs k y 6 8 l (omega arith))) ∙ e)
      ∙ at

  out_of_word : (k < 8) ⊎ (14 ≤ k) → y ≡ get_or xs k 0
  out_of_word o =
      let same : reply_check s ≡ reply_check r = sym word_new ∙ ap link_check (part_out xs k y 6 8 o) ∙ word_old in
      sym there ∙ new k in' ∙ outside_word s r k o same ∙ sym (old k in')

  pub same_reply : y ≡ get_or xs k 0
  same_reply = elim (cases_lt k 8) [
    | inl low ↦ out_of_word (inl low)
    | inr l ↦ elim (cases_lt k 14) [ inl h ↦ in_word l h | inr high ↦ out_of_word (inr high) ]
  ]

-- no frame has both forms: character 1 is data in the one and control in the other
apart : (xs ys : List ℕ) (ms : List Mark) → 2 < length ms → ProtocolForm (record { bytes = xs; marks = ms }) → LinkForm (record { bytes = ys; marks = ms }) → ⊥
apart xs ys ms h p l =
    let one : mark_number (get_or ms 1 Zero) ≡ mark_number (form_mark Protocol (length ms) 1) = p.marks 1 (omega arith) in
    let data' : form_mark Protocol (length ms) 1 ≡ Data = grind (arith, nat_tests) in
    let two : mark_number (get_or ms 1 Zero) ≡ 2 = l.marks 1 (omega arith) in
    omega (arith, sym two ∙ one ∙ ap mark_number data')

module _ (f : FrameM) (groups : ℕ) (g : Grouped f groups) (k m : ℕ) (in' : k < length f.bytes) (was : byte_at f k < 256) (some : 0 < m) (fits : m < 256) where
  abbrev y : ℕ
  y = bit_xor (byte_at f k) m

  fits_y : bit_xor (byte_at f k) m < 256
  fits_y = xor_lt 8 (byte_at f k) m was fits

  changed : bit_xor (byte_at f k) m ≡ byte_at f k → ⊥
  changed e = let z : m ≡ 0 = xor_inj_r (byte_at f k) m 0 (e ∙ sym (xor_zero_r (byte_at f k))) in omega arith

  has_form : (h : FrameM) → Good h → ProtocolForm h ⊎ ((r : Reply) × (h ≡ reply_frame r))
  has_form h (packet id p is e) = inl (subst ProtocolForm (sym e) (sealed_form id p is))
  has_form h (reply r e) = inr (r, e)

  reply_has : (h : FrameM) (r : Reply) → h ≡ reply_frame r → (i : ℕ) → i < 128 → byte_at h i ≡ link_byte r i
  reply_has h r e i lt = ap (λ z. byte_at z i) e ∙ reply_byte r i lt

  -- one flipped byte always breaks a good frame
  pub flip_breaks : Good f → Broken (flipped f k m)
  flip_breaks old new =
      let whole : length f.bytes % 128 ≡ 0 = omega (arith, g.bytes_long) in
      let many : 128 ≤ length f.bytes = omega (arith, g.bytes_long, g.some) in
      let marks : 2 < length f.marks = omega (arith, g.marks_long, g.some) in
      elim (has_form f old) [
        | inl p ↦ elim (has_form (flipped f k m) new) [
          | inl q ↦ changed (same_protocol f.bytes k y whole many in' f.marks f.marks p q was fits_y)
          | inr q ↦ apart f.bytes (set f.bytes k y) f.marks marks p (subst LinkForm (sym q.1) (reply_form q.0))
        ]
        | inr p ↦ elim (has_form (flipped f k m) new) [
          | inl q ↦ apart (set f.bytes k y) f.bytes f.marks marks q (subst LinkForm (sym p.1) (reply_form p.0))
          | inr q ↦
              let long : length f.bytes ≡ 128 = ap (λ z. length z.bytes) p.1 ∙ reply_long p.0 in
              changed (same_reply p.0 q.0 f.bytes k y long (omega arith) was fits_y (reply_has f p.0 p.1) (reply_has (flipped f k m) q.0 q.1))
        ]
      ]
