-- What hex digits write.
use Rattle.std.specs.Prelude.{ℕ, ◌+◌, ◌-◌, ◌*◌, Bool, if◌then◌else◌, ◌&&◌, List, [], ◌∷◌, Some, None, Option, nat_le}
use Rattle.accbox.specs.Read.{with_first}

-- a letter from the first to the last of these
abbrev pub among : ℕ → ℕ → ℕ → Bool
among first last c = nat_le first c && nat_le c last

-- the number of a hex digit, which is one of 0 to 9, a to f and A to F
abbrev pub hex_digit : ℕ → Option ℕ
hex_digit c = if among 48 57 c then Some (c - 48) else if among 97 102 c then Some (c - 87) else if among 65 70 c then Some (c - 55) else None

-- sixteen times the high digit, and the low one
abbrev pub hex_pair : Option ℕ → Option ℕ → Option ℕ
hex_pair (Some high) (Some low) = Some (16 * high + low)
hex_pair (Some high) None = None
hex_pair None low = None

-- the byte that two digits write
abbrev pub hex_byte : List ℕ → Option ℕ
hex_byte [] = None
hex_byte (high ∷ []) = None
hex_byte (high ∷ low ∷ []) = hex_pair (hex_digit high) (hex_digit low)
hex_byte (high ∷ low ∷ more ∷ rest) = None

-- the bytes that pairs of digits write
abbrev pub hex_bytes : List ℕ → Option (List ℕ)
hex_bytes [] = Some []
hex_bytes (high ∷ []) = None
hex_bytes (high ∷ low ∷ rest) = with_first (hex_pair (hex_digit high) (hex_digit low)) (hex_bytes rest)
