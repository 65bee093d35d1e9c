-- The cyclic checks of the link: a check over a width w and a polynomial p, and the link check.
use Rattle.std.specs.Prelude.{◌≡◌, ℕ, zero, suc, ◌-◌, ◌*◌, ◌/◌, ◌%◌, ◌^◌, ◌<◌, if◌then◌else◌, List, fold, length, ◌==◌, bit_xor, slice_index, slice_set}
use Rattle.crc.specs.declared.unit.UnitCheck.{UnitCheck}

-- one bit: it is xored with the state's top bit, the state moves left by one within w bits, and where that xor was 1 the polynomial is xored in
unfoldable pub bit_step : ℕ → ℕ → ℕ → ℕ → ℕ
bit_step w p s b = if bit_xor (s / 2 ^ (w - 1)) b == 1 then bit_xor (s * 2 % 2 ^ w) p else s * 2 % 2 ^ w

-- the low k bits of a byte, from the highest of them down to bit 0
abbrev pub bits_run : ℕ → ℕ → ℕ → ℕ → ℕ → ℕ
bits_run w p byte zero s = s
bits_run w p byte (suc k) s = bits_run w p byte k (bit_step w p s (byte / 2 ^ k % 2))

-- one byte, from bit 7 down to bit 0
unfoldable pub byte_step : ℕ → ℕ → ℕ → ℕ → ℕ
byte_step w p s byte = bits_run w p byte 8 s

-- the bytes in turn, from the state s
abbrev pub run : ℕ → ℕ → ℕ → List ℕ → ℕ
run w p s xs = fold (byte_step w p) s xs

-- the link check: sixteen bits, from the state 0
unfoldable pub link_check : List ℕ → ℕ
link_check xs = run 16 0x8005 0 xs

-- one byte put in place of another shows in the state: where the state stays the same, so does the byte
abbrev pub OneByteShows : ℕ → ℕ → ℕ → List ℕ → Type 0
OneByteShows w p s xs = (i y : ℕ) → i < length xs → y < 256 → run w p s (slice_set xs i y) ≡ run w p s xs → y ≡ slice_index xs i

-- where the check of a unit stands
abbrev pub state_of : UnitCheck → ℕ
state_of c = c.state
