-- A packet: its bytes, and which bytes are one.
use Rattle.std.specs.Prelude.{◌≡◌, ℕ, ◌%◌, Bool, true, if◌then◌else◌, not, ◌&&◌, ◌||◌, List, length, Some, None, Option, ◌==◌, nat_le, slice_index}
use Rattle.frame.specs.Lowest.{lowest_wrong}
use Rattle.frame.specs.Reserved.{reserved, cleared}
use Rattle.terms.specs.declared.fault.PacketFault.{PacketFault}
use Rattle.terms.specs.declared.fault.PacketFault.TheVariants.{Length, Reserved}

-- the five lengths: 128, 256, 384, 512 and 640
abbrev pub one_of_five : ℕ → Bool
one_of_five n = n % 128 == 0 && nat_le 128 n && nat_le n 640

-- one of the five lengths, and zero at every reserved place
pub record IsPacket (xs : List ℕ) : Type 0 where
  pub long : one_of_five (length xs) ≡ true
  pub clear : cleared xs ≡ xs

-- a place that is not reserved, or holds zero
abbrev pub clear_at : List ℕ → ℕ → Bool
clear_at xs k = not (reserved (length xs) k) || slice_index xs k == 0

-- the lowest reserved place that is not zero
abbrev pub lowest_reserved : List ℕ → Option ℕ
lowest_reserved xs = lowest_wrong (clear_at xs) (length xs)

abbrev pub reserved_fault : Option ℕ → Option PacketFault
reserved_fault None = None
reserved_fault (Some k) = Some (Reserved k)

-- why the bytes are no packet: first their length, then the lowest reserved place that is not zero
abbrev pub packet_fault : List ℕ → Option PacketFault
packet_fault xs =
    if one_of_five (length xs) then reserved_fault (lowest_reserved xs)
    else Some Length
