-- Packets in flight, oldest first, as places in the list of all that were taken.
use Rattle.std.proofs.Common.{◌≡◌, ℕ, ◌+◌, ◌%◌, ◌<◌, ◌≤◌, max, List, [], ◌∷◌, ◌++◌, length, get_or, sym, refl, ap, ◌∙◌, arith}
use Rattle.std.proofs.lemmas.List.{get_or_append_left}

-- a frame's ID, its number of bytes, and the packet in it
pub data Packed : Type 0 where
  packed : ℕ → ℕ → List ℕ → Packed

-- the packet at a place of all that were taken, as its frame has it
abbrev pub packed_of : List (List ℕ) → ℕ → Packed
packed_of all i = packed (i % 256) (length (get_or all i [])) (get_or all i [])

-- each is below top, and lags at most 16 behind low and 15 behind those ahead of it
pub data Flight (all : List (List ℕ)) (top : ℕ) : ℕ → List Packed → Type 0 where
  none : {low : ℕ} → Flight all top low []
  one : {low : ℕ} {q : Packed} {qs : List Packed} (i : ℕ) → q ≡ packed_of all i → i < top → low ≤ i + 16 → Flight all top (max low (i + 1)) qs → Flight all top low (q ∷ qs)

pub flight_first : {all : List (List ℕ)} {top low : ℕ} {q : Packed} {qs : List Packed} → Flight all top low (q ∷ qs) → (i : ℕ) × (q ≡ packed_of all i) × (i < top) × (low ≤ i + 16) × Flight all top (max low (i + 1)) qs
flight_first (one i is below near rest) = (i, is, below, near, rest)

pub flight_lower : {all : List (List ℕ)} {top low : ℕ} {qs : List Packed} (lower : ℕ) → lower ≤ low → Flight all top low qs → Flight all top lower qs
flight_lower lower h none = none
flight_lower {low = low} lower h (one i is below near rest) = one i is below (omega arith) (flight_lower (max lower (i + 1)) (omega arith) rest)

pub flight_higher : {all : List (List ℕ)} {top low : ℕ} {qs : List Packed} (higher : ℕ) → top ≤ higher → Flight all top low qs → Flight all higher low qs
flight_higher higher h none = none
flight_higher higher h (one i is below near rest) = one i is (omega arith) near (flight_higher higher h rest)

pub flight_grown : {all : List (List ℕ)} {top low : ℕ} {qs : List Packed} (p : List ℕ) → top ≤ length all → Flight all top low qs → Flight (all ++ (p ∷ [])) top low qs
flight_grown p h none = none
flight_grown {all = all} p h (one i is below near rest) = one i (is ∙ ap (λ p. packed (i % 256) (length p) p) (sym (get_or_append_left all (p ∷ []) [] i (omega arith)))) below near (flight_grown p h rest)

pub flight_push : {all : List (List ℕ)} {top low : ℕ} {qs : List Packed} (i : ℕ) → i < top → low ≤ i + 16 → top ≤ i + 16 → Flight all top low qs → Flight all top low (qs ++ (packed_of all i ∷ []))
flight_push i below near last none = one i refl below near none
flight_push {low = low} i below near last (one j is under_top lag rest) = one j is under_top lag (flight_push i below (omega arith) last rest)

pub flight_tail : {all : List (List ℕ)} {top : ℕ} (ps qs : List Packed) {low : ℕ} → Flight all top low (ps ++ qs) → Flight all top low qs
flight_tail [] qs f = f
flight_tail (p ∷ ps) qs {low} f =
    let (i, is, below, near, rest) = flight_first f in
    flight_lower low (omega arith) (flight_tail ps qs rest)
