-- The step of a bit and of a byte, at every width suc v: a step with a bit is a step without one, of the state with the bit xored in at its top.
use Rattle.std.proofs.Common.{◌≡◌, ℕ, zero, suc, ◌+◌, ◌-◌, ◌*◌, ◌/◌, ◌%◌, ◌^◌, ◌<◌, true, false, cond, eqb, sym, refl, ap, ◌∙◌, subst, ap₂, add-zero, mod-eq_of_lt, mul_assoc, add-mul, pow-suc, zero-mul, add-one, one-add, arith, pow_pos, pow-add}
use native.Mathlib.Nat.{mul-mod_left, div-eq_of_lt, mod-one}
use native.Mathlib.Numerals.{unary_clauses}
use lib.Bits.{bit_xor, xor_zero_r, xor_comm, xor_assoc, xor_shr, xor_mod, xor_block, xor_shifted}
use lib.Pow.{shl-shr}
use Rattle.std.proofs.lemmas.Nat.{mod-pow-add, shl_below, mod_below}
use Rattle.crc.specs.Check.{bit_step, bits_run}

-- the polynomial goes in where f is 1
abbrev pub fed : ℕ → ℕ → ℕ → ℕ
fed p f m = cond (eqb f 1) (bit_xor m p) m

moved : (v s : ℕ) → s * 2 % 2 ^ suc v ≡ s % 2 ^ v * 2
moved v s =
    ap (λ n. s * 2 % 2 ^ n) (sym (add-one v)) ∙ mod-pow-add (s * 2) v 1
    ∙ ap₂ (λ a b. a % 2 ^ v * 2 + b) (shl-shr s 1) (mul-mod_left s 2) ∙ add-zero (s % 2 ^ v * 2)

less : (v : ℕ) → suc v - 1 ≡ v
less v = simp unary_clauses

pub step_is : (v p s b : ℕ) → bit_step (suc v) p s b ≡ fed p (bit_xor (s / 2 ^ v) b) (s % 2 ^ v * 2)
unfolding bit_step
step_is v p s b = ap₂ (λ n m. fed p (bit_xor (s / 2 ^ n) b) m) (less v) (moved v s)

pub bit_in : (v p s b : ℕ) → bit_step (suc v) p s b ≡ bit_step (suc v) p (bit_xor s (b * 2 ^ v)) 0
bit_in v p s b =
    step_is v p s b
    ∙ sym (ap₂ (λ f m. fed p f (m * 2))
    (xor_zero_r (bit_xor s (b * 2 ^ v) / 2 ^ v) ∙ xor_shr s (b * 2 ^ v) v ∙ ap (bit_xor (s / 2 ^ v)) (shl-shr b v))
    (xor_mod s (b * 2 ^ v) v ∙ ap (bit_xor (s % 2 ^ v)) (mul-mod_left b (2 ^ v)) ∙ xor_zero_r (s % 2 ^ v)))
    ∙ sym (step_is v p (bit_xor s (b * 2 ^ v)) 0)

xor_swap : (m u p : ℕ) → bit_xor (bit_xor m u) p ≡ bit_xor (bit_xor m p) u
xor_swap m u p = xor_assoc m u p ∙ ap (bit_xor m) (xor_comm u p) ∙ sym (xor_assoc m p u)

fed_xor : (p f m u : ℕ) → fed p f (bit_xor m u) ≡ bit_xor (fed p f m) u
fed_xor p f m u =
    elim (eqb f 1) as (λ b. cond b (bit_xor (bit_xor m u) p) (bit_xor m u) ≡ bit_xor (cond b (bit_xor m p) m) u) [ true ↦ xor_swap m u p | false ↦ refl ]

xor_twice : (a b : ℕ) → bit_xor a b * 2 ≡ bit_xor (a * 2) (b * 2)
xor_twice a b = sym (ap₂ bit_xor (sym (add-zero (a * 2))) (sym (add-zero (b * 2))) ∙ xor_block 1 a b 0 0 (pow_pos 1) (pow_pos 1) ∙ add-zero (bit_xor a b * 2))

-- a step carries on what is xored in below the top
pub low_in : (v p s t : ℕ) → t < 2 ^ v → bit_step (suc v) p (bit_xor s t) 0 ≡ bit_xor (bit_step (suc v) p s 0) (t * 2)
low_in v p s t h =
    step_is v p (bit_xor s t) 0
    ∙ ap₂ (λ f m. fed p (bit_xor f 0) m)
    (xor_shr s t v ∙ ap (bit_xor (s / 2 ^ v)) (div-eq_of_lt h) ∙ xor_zero_r (s / 2 ^ v))
    (ap (λ m. m * 2) (xor_mod s t v ∙ ap (bit_xor (s % 2 ^ v)) (mod-eq_of_lt h)) ∙ xor_twice (s % 2 ^ v) t)
    ∙ fed_xor p (bit_xor (s / 2 ^ v) 0) (s % 2 ^ v * 2) (t * 2)
    ∙ ap (λ x. bit_xor x (t * 2)) (sym (step_is v p s 0))

-- k steps without a bit
abbrev pub turns : ℕ → ℕ → ℕ → ℕ → ℕ
turns w p zero s = s
turns w p (suc k) s = turns w p k (bit_step w p s 0)

place : (v byte k n : ℕ) → v ≡ k + n → byte / 2 ^ k % 2 * 2 ^ v + byte % 2 ^ k * 2 ^ n ≡ byte % 2 ^ suc k * 2 ^ n
place v byte k n e =
    ap (λ x. byte / 2 ^ k % 2 * x + byte % 2 ^ k * 2 ^ n) (ap (λ x. 2 ^ x) e ∙ pow-add 2 k n)
    ∙ ap (λ x. x + byte % 2 ^ k * 2 ^ n) (sym (mul_assoc (byte / 2 ^ k % 2) (2 ^ k) (2 ^ n)))
    ∙ sym (add-mul (byte / 2 ^ k % 2 * 2 ^ k) (byte % 2 ^ k) (2 ^ n))
    ∙ ap (λ x. x * 2 ^ n) (sym (mod-pow-add byte 1 k) ∙ ap (λ m. byte % 2 ^ m) (one-add k))

-- the low k bits of a byte are k steps of the state with those bits xored in at its top
pub bits_turns : (v p byte k n s : ℕ) → k + n ≡ suc v → bits_run (suc v) p byte k s ≡ turns (suc v) p k (bit_xor s (byte % 2 ^ k * 2 ^ n))
bits_turns v p byte zero n s h = sym (ap (bit_xor s) (ap (λ x. x * 2 ^ n) (mod-one byte) ∙ zero-mul (2 ^ n)) ∙ xor_zero_r s)
bits_turns v p byte (suc k) n s h =
    let e : v ≡ k + n = omega arith in
    let t : ℕ = byte / 2 ^ k % 2 in
    let u : ℕ = byte % 2 ^ k * 2 ^ n in
    let small : u < 2 ^ v = subst (λ x. u < 2 ^ x) (sym e) (shl_below (byte % 2 ^ k) k n (mod_below byte (2 ^ k) (pow_pos k))) in
    let twice : byte % 2 ^ k * 2 ^ suc n ≡ u * 2 = ap (λ x. byte % 2 ^ k * x) (pow-suc 2 n) ∙ sym (mul_assoc (byte % 2 ^ k) (2 ^ n) 2) in
    bits_turns v p byte k (suc n) (bit_step (suc v) p s t) (omega arith)
    ∙ ap (turns (suc v) p k)
    (ap₂ bit_xor (bit_in v p s t) twice
    ∙ sym (low_in v p (bit_xor s (t * 2 ^ v)) u small)
    ∙ ap (λ x. bit_step (suc v) p x 0) (xor_assoc s (t * 2 ^ v) u ∙ ap (bit_xor s) (xor_shifted t v u small ∙ place v byte k n e)))
