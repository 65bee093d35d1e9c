-- What a host's buffer gets of a frame.
use Rattle.std.specs.Prelude.{◌≡◌, ℕ, ◌≤◌, if◌then◌else◌, List, ◌++◌, length, drop, Ok, Err, Result, nat_lt}
use Rattle.frame.specs.Frame.{FrameM}
use Rattle.frame.specs.Reading.{reading}
use Rattle.frame.specs.Reserved.{cleared}
use Rattle.terms.specs.declared.content.Content.{Content}
use Rattle.terms.specs.declared.content.Content.TheVariants as content
use Rattle.terms.specs.declared.fault.FrameFault.{FrameFault}
use Rattle.terms.specs.declared.fault.HostFault.{HostFault}
use Rattle.terms.specs.declared.fault.UnpackFault.{UnpackFault}
use Rattle.terms.specs.declared.fault.UnpackFault.TheVariants as unpack

-- copying out the bytes of a frame, into a buffer of so many bytes: their number, or that the buffer is shorter
abbrev pub copying : FrameM → ℕ → Result ℕ HostFault
copying f room = if nat_lt room (length f.bytes) then Err (record { needed = length f.bytes }) else Ok (length f.bytes)

-- the buffer after it: the frame's bytes with the reserved places zero, and the rest as it was; untouched if it is shorter
abbrev pub copied_into : FrameM → List ℕ → List ℕ
copied_into f buffer = if nat_lt (length buffer) (length f.bytes) then buffer else cleared f.bytes ++ drop (length f.bytes) buffer

-- what was read, once the buffer has taken its bytes
abbrev pub once_copied : Content → Result ℕ HostFault → Result Content UnpackFault
once_copied what (Ok n) = Ok what
once_copied what (Err e) = Err (unpack.Host e)

-- a packet goes into the buffer, a reply does not, and a broken frame is refused
abbrev pub unpacking_read : Result Content FrameFault → Result ℕ HostFault → Result Content UnpackFault
unpacking_read (Ok (content.Packet id n)) copy = once_copied (content.Packet id n) copy
unpacking_read (Ok (content.Reply r)) copy = Ok (content.Reply r)
unpacking_read (Err e) copy = Err (unpack.Frame e)

abbrev pub unpacking : FrameM → ℕ → Result Content UnpackFault
unpacking f room = unpacking_read (reading f) (copying f room)

abbrev pub unpacked_read : Result Content FrameFault → List ℕ → List ℕ → List ℕ
unpacked_read (Ok (content.Packet id n)) buffer filled = filled
unpacked_read (Ok (content.Reply r)) buffer filled = buffer
unpacked_read (Err e) buffer filled = buffer

-- the buffer after unpacking: only a packet changes it
abbrev pub unpacked_into : FrameM → List ℕ → List ℕ
unpacked_into f buffer = unpacked_read (reading f) buffer (copied_into f buffer)

-- unpacking gives just these bytes under this ID, into every buffer that they fit in, and the rest of the buffer stays
abbrev pub Unpacks : FrameM → ℕ → List ℕ → Type 0
Unpacks f id p = (buffer : List ℕ) → length p ≤ length buffer
    → (unpacking f (length buffer) ≡ Ok (content.Packet id (length p))) × (unpacked_into f buffer ≡ p ++ drop (length p) buffer)
