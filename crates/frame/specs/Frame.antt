-- A frame as the rules speak of it: its bytes and its marks.
use Rattle.std.specs.Prelude.{◌≡◌, ℕ, ◌*◌, ◌/◌, ◌≤◌, if◌then◌else◌, List, length, Some, None, Option, ◌==◌, bit_xor, slice_index, slice_index_or, slice_set}
use Rattle.terms.specs.Mark.{mark_number}
use Rattle.frame.specs.Packet.{one_of_five}
use Rattle.terms.specs.declared.fault.ShapeFault.{ShapeFault}
use Rattle.terms.specs.declared.fault.ShapeFault.TheVariants.{Bytes, Marks}
use Rattle.terms.specs.declared.mark.Mark.{Mark}
use Rattle.terms.specs.declared.mark.Mark.TheVariants.{Zero}

pub record FrameM : Type 0 where
  pub bytes : List ℕ
  pub marks : List Mark

-- the frame of these bytes and marks
abbrev pub parted : List ℕ → List Mark → FrameM
parted bs ms = record { bytes = bs; marks = ms }

-- why so many bytes and so many marks make no frame: the bytes are not one to five whole groups, or there is not one mark to every sixteen bytes
abbrev pub parts_fault : ℕ → ℕ → Option ShapeFault
parts_fault bs ms = if one_of_five bs then (if ms == bs / 16 then None else Some Marks) else Some Bytes

-- one to five groups of eight characters, a character being sixteen bytes and a mark
pub record Grouped (f : FrameM) (groups : ℕ) : Type 0 where
  pub some : 1 ≤ groups
  pub few : groups ≤ 5
  pub bytes_long : length f.bytes ≡ 128 * groups
  pub marks_long : length f.marks ≡ 8 * groups

-- so of some number of groups
abbrev pub IsFrame : FrameM → Type 0
IsFrame f = (groups : ℕ) × Grouped f groups

-- the byte at a place
abbrev pub byte_at : FrameM → ℕ → ℕ
byte_at f k = slice_index f.bytes k

-- the number of a character's mark
abbrev pub mark_at : FrameM → ℕ → ℕ
mark_at f c = mark_number (slice_index_or f.marks c Zero)

-- the frame with one byte xored by a mask; a place outside the frame leaves it as it is
abbrev pub flipped : FrameM → ℕ → ℕ → FrameM
flipped f k m = record f { bytes = slice_set f.bytes k (bit_xor (byte_at f k) m) }

-- the frame with one mark put in place of another; a character outside the frame leaves it as it is
abbrev pub marked : FrameM → ℕ → Mark → FrameM
marked f c m = record f { marks = slice_set f.marks c m }
