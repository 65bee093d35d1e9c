-- What reading makes of a frame, and which frames are good.
use Rattle.std.specs.Prelude.{◌≡◌, ℕ, ◌+◌, ◌-◌, ◌*◌, ◌/◌, ◌%◌, Bool, if◌then◌else◌, ◌&&◌, ◌||◌, List, length, take, drop, Some, None, Ok, Err, Option, Result, ◌==◌, nat_lt}
use Rattle.crc.specs.Check.{link_check}
use Rattle.frame.specs.Units.{unit_check}
use Rattle.frame.specs.Form.{kind_of, form_mark, allows, sealed, reply_frame}
use Rattle.frame.specs.Frame.{FrameM, byte_at, mark_at}
use Rattle.frame.specs.Lowest.{lowest_wrong}
use Rattle.terms.specs.Mark.{mark_number}
use Rattle.frame.specs.Packet.{IsPacket}
use Rattle.frame.specs.Reserved.{cleared}
use Rattle.terms.specs.declared.content.Content.{Content}
use Rattle.terms.specs.declared.content.Content.TheVariants as content
use Rattle.terms.specs.declared.fault.FrameFault.{FrameFault}
use Rattle.terms.specs.declared.fault.FrameFault.TheVariants.{Sync, Form, Check}
use Rattle.frame.specs.declared.frame.Kind.{Kind}
use Rattle.frame.specs.declared.frame.Kind.TheVariants.{Protocol, Link}
use Rattle.terms.specs.declared.reply.Reply.{Reply}
use Rattle.terms.specs.declared.reply.ReplyKind.TheVariants.{Ack, Nak}

-- the refusal at the lowest wrong place, where there is one
abbrev pub refused_at : (ℕ → FrameFault) → Option ℕ → Result (Unit {0}) FrameFault
refused_at fault None = Ok tt
refused_at fault (Some k) = Err (fault k)

-- what follows, where nothing was refused before
abbrev pub once_ok : {A : Type 0} → Result (Unit {0}) FrameFault → Result A FrameFault → Result A FrameFault
once_ok (Ok _) rest = rest
once_ok (Err e) rest = Err e

-- a mark that is 1 or 2
abbrev pub sync_right : FrameM → ℕ → Bool
sync_right f c = mark_at f c == 1 || mark_at f c == 2

-- a mark that is the form's
abbrev pub mark_right : Kind → FrameM → ℕ → Bool
mark_right kind f c = mark_at f c == mark_number (form_mark kind (length f.marks) c)

-- a byte that the form allows
abbrev pub byte_right : Kind → FrameM → ℕ → Bool
byte_right kind f k = allows kind (length f.bytes) k (byte_at f k)

-- a unit whose check byte is its check; they stand at the fourteenth place from the end and behind it
abbrev pub unit_right : FrameM → ℕ → Bool
unit_right f j = byte_at f (length f.bytes - 14 + j) == unit_check f.bytes j

-- the lowest character with a sync error
abbrev pub lowest_sync : FrameM → Option ℕ
lowest_sync f = lowest_wrong (sync_right f) (length f.marks)

-- the lowest character whose mark is not the form's
abbrev pub lowest_mark : Kind → FrameM → Option ℕ
lowest_mark kind f = lowest_wrong (mark_right kind f) (length f.marks)

-- the lowest place whose byte the form does not allow
abbrev pub lowest_byte : Kind → FrameM → Option ℕ
lowest_byte kind f = lowest_wrong (byte_right kind f) (length f.bytes)

-- the lowest unit whose check is wrong
abbrev pub lowest_unit : FrameM → Option ℕ
lowest_unit f = lowest_wrong (unit_right f) 8

-- sync errors
abbrev pub sync_checked : FrameM → Result (Unit {0}) FrameFault
sync_checked f = refused_at Sync (lowest_sync f)

-- the form: first the lowest wrong mark, named by its character's first place, then the lowest wrong fixed byte
abbrev pub form_checked : Kind → FrameM → Result (Unit {0}) FrameFault
form_checked kind f = once_ok (refused_at (λ c. Form (16 * c)) (lowest_mark kind f)) (refused_at Form (lowest_byte kind f))

-- the unit checks
abbrev pub units_checked : FrameM → Result (Unit {0}) FrameFault
units_checked f = refused_at (λ j. Check (length f.bytes - 14 + j)) (lowest_unit f)

-- the reply that a link frame names
abbrev pub reply_of : FrameM → Reply
reply_of f = record { kind = if byte_at f 9 == 0x80 then Nak else Ack; id = byte_at f 10 }

-- the link check of a frame's places 8 to 13
abbrev pub word_check : FrameM → ℕ
word_check f = link_check (take 6 (drop 8 f.bytes))

-- a link frame's check is right: it stands at places 14 and 15, low byte first
abbrev pub link_right : FrameM → Bool
link_right f = byte_at f 14 == word_check f % 256 && byte_at f 15 == word_check f / 256

abbrev pub reading_as : Kind → FrameM → Result Content FrameFault
reading_as Protocol f =
    once_ok (form_checked Protocol f) (once_ok (units_checked f) (Ok (content.Packet (byte_at f 1) (length f.bytes))))
reading_as Link f =
    if nat_lt 128 (length f.bytes) then Err (Form 128)
    else once_ok (form_checked Link f) (if link_right f then Ok (content.Reply (reply_of f)) else Err (Check 14))

-- what reading gives: sync errors first, then the form, a link frame over one group before all else, then the checks
unfoldable pub reading : FrameM → Result Content FrameFault
reading f = once_ok (sync_checked f) (reading_as (kind_of f) f)

-- a good frame is the protocol frame of a packet under an ID, or the link frame of a reply
pub data Good (f : FrameM) : Type 0 where
  packet : (id : ℕ) (p : List ℕ) → IsPacket p → f ≡ sealed id p → Good f
  reply : (r : Reply) → f ≡ reply_frame r → Good f

-- any other frame is broken
abbrev pub Broken : FrameM → Type 0
Broken f = Good f → ⊥

-- what an answer of reading says of the frame: just the form that it names, or that it is broken
abbrev pub Says : FrameM → Result Content FrameFault → Type 0
Says f (Ok (content.Packet id n)) = (n ≡ length f.bytes) × IsPacket (cleared f.bytes) × (f ≡ sealed id (cleared f.bytes))
Says f (Ok (content.Reply r)) = f ≡ reply_frame r
Says f (Err fault) = Broken f
