-- No two states, and no two bytes, step to the same state, at every width suc v of at least eight and every odd polynomial.
use Rattle.std.proofs.Common.{◌≡◌, ℕ, zero, suc, ◌+◌, ◌-◌, ◌*◌, ◌/◌, ◌%◌, ◌^◌, ◌<◌, cond, eqb, List, [], ◌∷◌, length, get_or, set, sym, refl, ap, ◌∙◌, subst, ap₂, le_of_suc-le-suc, not-suc-le-zero, mod-eq_of_lt, div-add-mod', mul-one, one-add, arith, pow_pos}
use native.Mathlib.Nat.{mul-mod_left}
use lib.Bits.{bit_xor, xor_zero_r, xor_comm, xor_assoc, xor_self, xor_mod, xor_lt}
use lib.Pow.{shl-shr}
use Rattle.std.proofs.lemmas.Nat.{shl_below, shr_below, mod_below}
use Rattle.std.proofs.lemmas.Bool.{cond_both}
use Rattle.crc.specs.Check.{bit_step, bits_run, byte_step, run}
use Rattle.crc.proofs.Law.{fed, step_is, turns, bits_turns}

xor_back : (a b : ℕ) → bit_xor (bit_xor a b) b ≡ a
xor_back a b = xor_assoc a b b ∙ ap (bit_xor a) (xor_self b) ∙ xor_zero_r a

xor_inj_l : (a b c : ℕ) → bit_xor a c ≡ bit_xor b c → a ≡ b
xor_inj_l a b c e = sym (xor_back a c) ∙ ap (λ x. bit_xor x c) e ∙ xor_back b c

pub xor_inj_r : (c a b : ℕ) → bit_xor c a ≡ bit_xor c b → a ≡ b
xor_inj_r c a b e = xor_inj_l a b c (xor_comm a c ∙ e ∙ xor_comm c b)

-- the state before a step without a bit
back : ℕ → ℕ → ℕ → ℕ
back v p r = r % 2 * 2 ^ v + cond (eqb (r % 2) 1) (bit_xor r p) r / 2

back_at : (v p r f : ℕ) → r % 2 ≡ f → back v p r ≡ f * 2 ^ v + cond (eqb f 1) (bit_xor r p) r / 2
unfolding back
back_at v p r f e = ap (λ x. x * 2 ^ v + cond (eqb x 1) (bit_xor r p) r / 2) e

half : (m : ℕ) → m * 2 / 2 ≡ m
half m = shl-shr m 1

undo_fed : (v p q m : ℕ) → p % 2 ≡ 1 → q < 2 → back v p (fed p q (m * 2)) ≡ q * 2 ^ v + m
undo_fed v p zero m odd h = back_at v p (m * 2) 0 (mul-mod_left m 2) ∙ ap (λ x. 0 * 2 ^ v + x) (half m)
undo_fed v p (suc zero) m odd h =
    back_at v p (bit_xor (m * 2) p) 1 (xor_mod (m * 2) p 1 ∙ ap₂ bit_xor (mul-mod_left m 2) odd)
    ∙ ap (λ x. 1 * 2 ^ v + x / 2) (xor_back (m * 2) p) ∙ ap (λ x. 1 * 2 ^ v + x) (half m)
undo_fed v p (suc (suc q)) m odd h = absurd (omega arith)

module _ (v p : ℕ) (odd : p % 2 ≡ 1) (fits : p < 2 ^ suc v) where
  undo : (s : ℕ) → s < 2 ^ suc v → back v p (bit_step (suc v) p s 0) ≡ s
  undo s h =
      let q : s / 2 ^ v < 2 = shr_below s 1 v (subst (λ n. s < 2 ^ n) (sym (one-add v)) h) in
      ap (back v p) (step_is v p s 0 ∙ ap (λ f. fed p f (s % 2 ^ v * 2)) (xor_zero_r (s / 2 ^ v)))
      ∙ undo_fed v p (s / 2 ^ v) (s % 2 ^ v) odd q ∙ div-add-mod' s (2 ^ v)

  pub step_lt : (s b : ℕ) → bit_step (suc v) p s b < 2 ^ suc v
  unfolding bit_step
  step_lt s b =
      let m : s * 2 % 2 ^ suc v < 2 ^ suc v = mod_below (s * 2) (2 ^ suc v) (pow_pos (suc v)) in
      cond_both (eqb (bit_xor (s / 2 ^ (suc v - 1)) b) 1) (bit_xor (s * 2 % 2 ^ suc v) p) (s * 2 % 2 ^ suc v) (λ n. n < 2 ^ suc v) (λ _. xor_lt (suc v) (s * 2 % 2 ^ suc v) p m fits) (λ _. m)

  turns_inj : (k s r : ℕ) → s < 2 ^ suc v → r < 2 ^ suc v → turns (suc v) p k s ≡ turns (suc v) p k r → s ≡ r
  turns_inj zero s r hs hr e = e
  turns_inj (suc k) s r hs hr e =
      sym (undo s hs) ∙ ap (back v p) (turns_inj k (bit_step (suc v) p s 0) (bit_step (suc v) p r 0) (step_lt s 0) (step_lt r 0) e) ∙ undo r hr

  pub bits_lt : (byte k s : ℕ) → s < 2 ^ suc v → bits_run (suc v) p byte k s < 2 ^ suc v
  bits_lt byte zero s h = h
  bits_lt byte (suc k) s h = bits_lt byte k (bit_step (suc v) p s (byte / 2 ^ k % 2)) (step_lt s (byte / 2 ^ k % 2))

  pub byte_lt : (s b : ℕ) → s < 2 ^ suc v → byte_step (suc v) p s b < 2 ^ suc v
  unfolding byte_step
  byte_lt s b h = bits_lt b 8 s h

  module _ (n : ℕ) (wide : 8 + n ≡ suc v) where
    -- a byte's step is eight steps of the state with the byte xored in at its top
    pub byte_turns : (s b : ℕ) → byte_step (suc v) p s b ≡ turns (suc v) p 8 (bit_xor s (b % 256 * 2 ^ n))
    unfolding byte_step
    byte_turns s b = bits_turns v p b 8 n s wide

    at_top : (b : ℕ) → b % 256 * 2 ^ n < 2 ^ suc v
    at_top b = subst (λ x. b % 256 * 2 ^ n < 2 ^ x) wide (shl_below (b % 256) 8 n (mod_below b 256 (pow_pos 8)))

    in_lt : (s b : ℕ) → s < 2 ^ suc v → bit_xor s (b % 256 * 2 ^ n) < 2 ^ suc v
    in_lt s b h = xor_lt (suc v) s (b % 256 * 2 ^ n) h (at_top b)

    pub byte_inj_state : (s r b : ℕ) → s < 2 ^ suc v → r < 2 ^ suc v → byte_step (suc v) p s b ≡ byte_step (suc v) p r b → s ≡ r
    byte_inj_state s r b hs hr e =
        xor_inj_l s r (b % 256 * 2 ^ n)
        (turns_inj 8 (bit_xor s (b % 256 * 2 ^ n)) (bit_xor r (b % 256 * 2 ^ n)) (in_lt s b hs) (in_lt r b hr) (sym (byte_turns s b) ∙ e ∙ byte_turns r b))

    pub byte_inj_byte : (s a b : ℕ) → s < 2 ^ suc v → a < 256 → b < 256 → byte_step (suc v) p s a ≡ byte_step (suc v) p s b → a ≡ b
    byte_inj_byte s a b hs ha hb e =
        let x : a % 256 * 2 ^ n ≡ b % 256 * 2 ^ n =
        xor_inj_r s (a % 256 * 2 ^ n) (b % 256 * 2 ^ n)
        (turns_inj 8 (bit_xor s (a % 256 * 2 ^ n)) (bit_xor s (b % 256 * 2 ^ n)) (in_lt s a hs) (in_lt s b hs) (sym (byte_turns s a) ∙ e ∙ byte_turns s b)) in
        let y : a % 256 ≡ b % 256 = sym (shl-shr (a % 256) n) ∙ ap (λ z. z / 2 ^ n) x ∙ shl-shr (b % 256) n in
        sym (mod-eq_of_lt ha) ∙ y ∙ mod-eq_of_lt hb

    pub run_inj : (s r : ℕ) (xs : List ℕ) → s < 2 ^ suc v → r < 2 ^ suc v → run (suc v) p s xs ≡ run (suc v) p r xs → s ≡ r
    run_inj s r [] hs hr e = e
    run_inj s r (x ∷ xs) hs hr e =
        byte_inj_state s r x hs hr (run_inj (byte_step (suc v) p s x) (byte_step (suc v) p r x) xs (byte_lt s x hs) (byte_lt r x hr) e)

    pub one_byte : (s : ℕ) (xs : List ℕ) (i y : ℕ) → s < 2 ^ suc v → i < length xs → get_or xs i 0 < 256 → y < 256 → run (suc v) p s (set xs i y) ≡ run (suc v) p s xs → y ≡ get_or xs i 0
    one_byte s [] i y hs hi hx hy e = absurd (not-suc-le-zero hi)
    one_byte s (x ∷ xs) zero y hs hi hx hy e =
        byte_inj_byte s y x hs hy hx (run_inj (byte_step (suc v) p s y) (byte_step (suc v) p s x) xs (byte_lt s y hs) (byte_lt s x hs) e)
    one_byte s (x ∷ xs) (suc i) y hs hi hx hy e = one_byte (byte_step (suc v) p s x) xs i y (byte_lt s x hs) (le_of_suc-le-suc hi) hx hy e

-- at width 8 the byte may as well be xored into the state first
pub byte_in : (p s b : ℕ) → p % 2 ≡ 1 → p < 256 → b < 256 → byte_step 8 p s b ≡ byte_step 8 p (bit_xor s b) 0
byte_in p s b odd fits h =
    byte_turns 7 p odd fits 0 refl s b
    ∙ ap (turns 8 p 8) (ap (bit_xor s) (mul-one (b % 256) ∙ mod-eq_of_lt h) ∙ sym (xor_zero_r (bit_xor s b)))
    ∙ sym (byte_turns 7 p odd fits 0 refl (bit_xor s b) 0)

pub run_lt : (v p : ℕ) → p % 2 ≡ 1 → p < 2 ^ suc v → (s : ℕ) (xs : List ℕ) → s < 2 ^ suc v → run (suc v) p s xs < 2 ^ suc v
run_lt v p odd fits s [] h = h
run_lt v p odd fits s (x ∷ xs) h = run_lt v p odd fits (byte_step (suc v) p s x) xs (byte_lt v p odd fits s x h)
