-- The two forms of a frame: what each place and each character holds.
use Rattle.std.specs.Prelude.{ℕ, ◌+◌, ◌-◌, ◌/◌, ◌%◌, Bool, true, false, if◌then◌else◌, ◌&&◌, ◌||◌, List, [], ◌∷◌, map, length, ◌==◌, nat_le, nat_lt, slice_index, slice_set}
use Rattle.std.specs.List.{range_with_len}
use Rattle.crc.specs.Check.{link_check}
use Rattle.frame.specs.Units.{unit_check}
use Rattle.frame.specs.Frame.{FrameM, byte_at, mark_at}
use Rattle.frame.specs.declared.frame.Kind.{Kind}
use Rattle.frame.specs.declared.frame.Kind.TheVariants.{Protocol, Link}
use Rattle.terms.specs.Reply.{kind_byte}
use Rattle.terms.specs.declared.mark.Mark.{Mark}
use Rattle.terms.specs.declared.mark.Mark.TheVariants.{Zero, Data, Control, Three}
use Rattle.terms.specs.declared.reply.Reply.{Reply}

-- link kind exactly if character 0 has mark 2 and place 0 is 0x5C
abbrev pub kind_of : FrameM → Kind
kind_of f = if mark_at f 0 == 2 && byte_at f 0 == 0x5C then Link else Protocol

-- a mark that is no sync error
abbrev pub is_synced : Mark → Bool
is_synced Zero = false
is_synced Data = true
is_synced Control = true
is_synced Three = false

-- the mark of character c of n: in a link frame all are control, in a protocol frame the first and the last are
abbrev pub form_mark : Kind → ℕ → ℕ → Mark
form_mark Link n c = Control
form_mark Protocol n c = if c == 0 || c + 1 == n then Control else Data

-- a place of a protocol frame of n bytes: place 0 is 0xFB, the last six are 0xFD, the others are free
unfoldable pub protocol_allows : ℕ → ℕ → ℕ → Bool
protocol_allows n k b = if k == 0 then b == 0xFB else if nat_le n (k + 6) then b == 0xFD else true

-- a place of a link frame: the ID at 10 and the check at 14 and 15 are free, place 9 has one of two values, every other has one
unfoldable pub link_allows : ℕ → ℕ → Bool
link_allows k b =
    if nat_lt k 8 then b == 0x5C
    else if k == 8 then b == 0xA5
    else if k == 9 then b == 0x00 || b == 0x80
    else if k == 10 then true
    else if nat_lt k 14 then b == 0
    else if nat_lt k 16 then true
    else if nat_lt k 24 then b == 0xFD
    else b == 0

abbrev pub allows : Kind → ℕ → ℕ → ℕ → Bool
allows Protocol n k b = protocol_allows n k b
allows Link n k b = link_allows k b

-- place k of the protocol frame of the packet p under an ID: the start, the ID, the packet's bytes, the checks of units 0 to 7, the end
unfoldable pub protocol_byte : ℕ → List ℕ → ℕ → ℕ
protocol_byte id p k =
    if k == 0 then 0xFB
    else if k == 1 then id
    else if nat_lt (k + 14) (length p) then slice_index p k
    else if nat_lt (k + 6) (length p) then unit_check (slice_set p 1 id) (k + 14 - length p)
    else 0xFD

-- the link check of a reply, over places 8 to 13: the tag, the kind, the ID and three zeros
unfoldable pub reply_check : Reply → ℕ
reply_check r = link_check (0xA5 ∷ kind_byte r.kind ∷ r.id ∷ 0 ∷ 0 ∷ 0 ∷ [])

-- place k of the link frame of a reply, the check low byte first
unfoldable pub link_byte : Reply → ℕ → ℕ
link_byte r k =
    if nat_lt k 8 then 0x5C
    else if k == 8 then 0xA5
    else if k == 9 then kind_byte r.kind
    else if k == 10 then r.id
    else if nat_lt k 14 then 0
    else if k == 14 then reply_check r % 256
    else if k == 15 then reply_check r / 256
    else if nat_lt k 24 then 0xFD
    else 0

-- a frame of n bytes, given place by place and with the marks of its kind
abbrev pub framed : Kind → ℕ → (ℕ → ℕ) → FrameM
framed kind n byte = record { bytes = map byte (range_with_len 0 n); marks = map (form_mark kind (n / 16)) (range_with_len 0 (n / 16)) }

-- the protocol frame of the packet p under an ID
unfoldable pub sealed : ℕ → List ℕ → FrameM
sealed id p = framed Protocol (length p) (protocol_byte id p)

-- the link frame of a reply
unfoldable pub reply_frame : Reply → FrameM
reply_frame r = framed Link 128 (link_byte r)
