-- Sums modulo 256.
use Rattle.std.proofs.Common.{◌≡◌, ℕ, ◌+◌, ◌-◌, ◌%◌, ◌≤◌, arith}

pub one_more : (t : ℕ) → (t % 256 + 1) % 256 ≡ (t + 1) % 256
one_more t = omega arith

pub oldest_is : (t r : ℕ) → r ≤ t → t ≤ r + 16 → (t % 256 + 256 - (t - r)) % 256 ≡ r % 256
oldest_is t r h l = omega arith

pub plus : (r c : ℕ) → (r % 256 + c) % 256 ≡ (r + c) % 256
plus r c = omega arith

pub same_index : (i u : ℕ) → i % 256 ≡ u % 256 → i ≤ u + 16 → u ≤ i + 16 → i ≡ u
same_index i u e h l = omega arith

pub before : (u : ℕ) → (u % 256 + 255) % 256 ≡ (u + 255) % 256
before u = omega arith

pub one_less : (u : ℕ) → (u + 1 + 255) % 256 ≡ u % 256
one_less u = omega arith

pub gap_is : (n r : ℕ) → r ≤ n → n ≤ r + 16 → ((n + 255) % 256 + 257 - r % 256) % 256 ≡ n - r
gap_is n r h l = omega arith
