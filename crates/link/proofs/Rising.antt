-- The IDs that replies name, oldest first: those before places that never fall.
use Rattle.std.proofs.Common.{◌≡◌, ℕ, ◌+◌, ◌%◌, ◌≤◌, List, [], ◌∷◌, ◌++◌, refl, arith}

-- the places are from low to high
pub data Rising (high : ℕ) : ℕ → List ℕ → Type 0 where
  none : {low : ℕ} → low ≤ high → Rising high low []
  one : {low n : ℕ} {ns : List ℕ} (k : ℕ) → n ≡ (k + 255) % 256 → low ≤ k → Rising high k ns → Rising high low (n ∷ ns)

pub rising_bound : {high low : ℕ} {ns : List ℕ} → Rising high low ns → low ≤ high
rising_bound (none h) = h
rising_bound (one k is h rest) = let l = rising_bound rest in omega arith

pub rising_first : {high low n : ℕ} {ns : List ℕ} → Rising high low (n ∷ ns) → (k : ℕ) × (n ≡ (k + 255) % 256) × (low ≤ k) × (k ≤ high) × Rising high k ns
rising_first (one k is h rest) = (k, is, h, rising_bound rest, rest)

pub rising_lower : {high low : ℕ} {ns : List ℕ} (lower : ℕ) → lower ≤ low → Rising high low ns → Rising high lower ns
rising_lower lower h (none l) = none (omega arith)
rising_lower lower h (one k is l rest) = one k is (omega arith) rest

pub rising_tail : {high : ℕ} (ms ns : List ℕ) {low : ℕ} → Rising high low (ms ++ ns) → Rising high low ns
rising_tail [] ns r = r
rising_tail (m ∷ ms) ns {low} r =
    let (k, is, h, l, rest) = rising_first r in
    rising_lower low h (rising_tail ms ns rest)

pub rising_front : {high : ℕ} (ns ms : List ℕ) {low : ℕ} → Rising high low (ns ++ ms) → Rising high low ns
rising_front [] ms r = none (rising_bound r)
rising_front (n ∷ ns) ms r =
    let (k, is, h, l, rest) = rising_first r in
    one k is h (rising_front ns ms rest)

-- one more, at a place no lower than any so far
pub rising_push : {high low : ℕ} {ns : List ℕ} (k : ℕ) → high ≤ k → Rising high low ns → Rising k low (ns ++ ((k + 255) % 256 ∷ []))
rising_push k h (none l) = one k refl (omega arith) (none (omega arith))
rising_push k h (one j is l rest) = one j is l (rising_push k h rest)
