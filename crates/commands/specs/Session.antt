-- What each command answers, and what it makes of a session: of the frame that it works on and of its carrier.
use Rattle.std.specs.Prelude.{◌≡◌, ℕ, ◌/◌, if◌then◌else◌, List, length, replicate, IfSome, Some, None, Ok, Err, vec_items, Option, Result, Vec, nat_lt}
use Rattle.std.specs.Option.{option_map}
use Rattle.std.specs.declared.alloc.Global.{Global}
use Rattle.terms.specs.Fault.{packet_refusal, frame_refusal, unpack_refusal}
use Rattle.frame.specs.Form.{sealed, reply_frame}
use Rattle.frame.specs.Frame.{FrameM, IsFrame, parted, parts_fault, flipped, marked}
use Rattle.frame.specs.Packet.{one_of_five, packet_fault}
use Rattle.frame.specs.Reserved.{cleared}
use Rattle.frame.specs.Reading.{reading}
use Rattle.frame.specs.Unpacking.{unpacking, unpacked_into}
use Rattle.terms.specs.declared.content.Content.{Content}
use Rattle.terms.specs.declared.content.Content.TheVariants as content
use Rattle.terms.specs.declared.fault.FrameFault.{FrameFault}
use Rattle.terms.specs.declared.fault.PacketFault.{PacketFault}
use Rattle.terms.specs.declared.fault.PacketFault.TheVariants.{Length}
use Rattle.terms.specs.declared.fault.ShapeFault.{ShapeFault}
use Rattle.terms.specs.declared.fault.ShapeFault.TheVariants as shape
use Rattle.terms.specs.declared.fault.UnpackFault.{UnpackFault}
use Rattle.terms.specs.declared.mark.Mark.{Mark}
use Rattle.commands.specs.Carrying.{CarrierM, carrying, unused, on_carrier, plan_answer, plan_after, put_says, put_leaves, take_answer, take_after, take_frame}
use Rattle.commands.specs.declared.answer.Answer.{Answer}
use Rattle.commands.specs.declared.answer.Answer.TheVariants.{Sealed, Made, Framed, Flipped, Marked, Outside, Good, Unpacked, NoPacket, Characters, Carrier, Refused}
use Rattle.commands.specs.declared.command.CarrierKind.{CarrierKind}
use Rattle.commands.specs.declared.command.Command.{Command}
use Rattle.commands.specs.declared.command.Command.TheVariants as command
use Rattle.commands.specs.declared.command.Load.{Load}
use Rattle.commands.specs.declared.command.Load.TheVariants.{Filled, Bytes}
use Rattle.commands.specs.declared.session.Session.{Session}
use Rattle.commands.specs.declared.trouble.Trouble.{Trouble}
use Rattle.commands.specs.declared.trouble.Trouble.TheVariants as trouble

-- the frame that it works on
abbrev pub held : Session → Option FrameM
held s = s.frame

-- what its carrier holds
abbrev pub carried : Session → Option CarrierM
carried s = option_map carrying s.carrier

-- the new frame, or the old one where something is wrong
abbrev pub unless : {E : Type 0} → Option E → FrameM → Option FrameM → Option FrameM
unless None new old = Some new
unless (Some e) new old = old

-- an answer about the frame, where there is one
abbrev pub on_frame : Option FrameM → (FrameM → Answer) → Result Answer Trouble
on_frame None answer = Err trouble.NoFrame
on_frame (Some f) answer = Ok (answer f)

-- why a load is no packet
abbrev pub load_fault : Load → Option PacketFault
load_fault (Filled size fill) = if one_of_five size then None else Some Length
load_fault (Bytes v) = packet_fault (vec_items v)

-- the bytes of the packet that a load makes
abbrev pub load_bytes : Load → List ℕ
load_bytes (Filled size fill) = cleared (replicate size fill)
load_bytes (Bytes v) = vec_items v

-- the ID and the size of the packet, or why there is none
abbrev pub seal_answer : Option PacketFault → ℕ → ℕ → Answer
seal_answer None id size = Sealed id size
seal_answer (Some f) id size = Refused (packet_refusal f)

-- what is wrong with so many bytes and so many marks
abbrev pub shape_trouble : ShapeFault → ℕ → ℕ → Trouble
shape_trouble shape.Bytes bytes marks = trouble.Bytes bytes
shape_trouble shape.Marks bytes marks = trouble.Marks marks (bytes / 16)

-- the groups of a frame of so many bytes and so many marks, or what is wrong with them
abbrev pub raw_answer : Option ShapeFault → ℕ → ℕ → Result Answer Trouble
raw_answer None bytes marks = Ok (Framed (bytes / 128))
raw_answer (Some fault) bytes marks = Err (shape_trouble fault bytes marks)

-- a flip of a place inside the frame, or outside it
abbrev pub flip_answer : ℕ → ℕ → FrameM → Answer
flip_answer place mask f = if nat_lt place (length f.bytes) then Flipped place mask else Outside

-- a mark on a character inside the frame, or outside it
abbrev pub mark_answer : ℕ → Mark → FrameM → Answer
mark_answer c m f = if nat_lt c (length f.marks) then Marked c m else Outside

-- what reading gave
abbrev pub read_answer : Result Content FrameFault → Answer
read_answer (Ok what) = Good what
read_answer (Err f) = Refused (frame_refusal f)

-- the answer to what unpacking gave, with the buffer after it
abbrev pub unpack_answer : Result Content UnpackFault → Vec ℕ Global → Answer
unpack_answer (Ok (content.Packet id size)) buffer = Unpacked size buffer
unpack_answer (Ok (content.Reply r)) buffer = NoPacket
unpack_answer (Err f) buffer = Refused (unpack_refusal f)

-- unpacking into a buffer of so many bytes 0xEE, for which there may be no memory
abbrev pub UnpackSays : Option FrameM → ℕ → Result Answer Trouble → Type 0
UnpackSays None size r = r ≡ Err trouble.NoFrame
UnpackSays (Some f) size (Ok a) =
    (buffer : Vec ℕ Global) × (a ≡ unpack_answer (unpacking f size) buffer) × (vec_items buffer ≡ unpacked_into f (replicate size 0xEE))
UnpackSays (Some f) size (Err t) = t ≡ trouble.Memory

-- the frame itself, whose characters are written
abbrev pub show_answer : Option FrameM → Result Answer Trouble
show_answer None = Err trouble.NoFrame
show_answer (Some f) = Ok (Characters f)

-- a new carrier in place of the old one, for which there may be no memory
abbrev pub CarrierSays : CarrierKind → Session → Result Answer Trouble → Session → Type 0
CarrierSays kind old (Ok a) new = (a ≡ Carrier kind) × (carried new ≡ Some unused) × (held new ≡ held old)
CarrierSays kind old (Err t) new = (t ≡ trouble.Memory) × (new ≡ old)

-- a command on the old session gives this answer and leaves the new one
abbrev pub Ran : Command → Session → Result Answer Trouble → Session → Type 0
Ran (command.Seal id load) old r new =
    (r ≡ Ok (seal_answer (load_fault load) id (length (load_bytes load))))
    × (held new ≡ unless (load_fault load) (sealed id (load_bytes load)) (held old))
    × (new.carrier ≡ old.carrier)
Ran (command.Reply reply) old r new = (r ≡ Ok (Made reply)) × (held new ≡ Some (reply_frame reply)) × (new.carrier ≡ old.carrier)
Ran (command.Raw bytes marks) old r new =
    let fault = parts_fault (length (vec_items bytes)) (length (vec_items marks)) in
    (r ≡ raw_answer fault (length (vec_items bytes)) (length (vec_items marks)))
    × (held new ≡ unless fault (parted (vec_items bytes) (vec_items marks)) (held old))
    × (new.carrier ≡ old.carrier)
Ran (command.Flip place mask) old r new =
    (r ≡ on_frame (held old) (flip_answer place mask))
    × (held new ≡ option_map (λ f. flipped f place mask) (held old))
    × (new.carrier ≡ old.carrier)
Ran (command.Mark c m) old r new =
    (r ≡ on_frame (held old) (mark_answer c m))
    × (held new ≡ option_map (λ f. marked f c m) (held old))
    × (new.carrier ≡ old.carrier)
Ran command.Read old r new = (r ≡ on_frame (held old) (λ f. read_answer (reading f))) × (new ≡ old)
Ran (command.Unpack size) old r new = UnpackSays (held old) size r × (new ≡ old)
Ran command.Show old r new = (r ≡ show_answer (held old)) × (new ≡ old) × IfSome (held old) IsFrame
Ran (command.Carrier kind) old r new = CarrierSays kind old r new
Ran (command.Plan harm) old r new =
    (r ≡ on_carrier (carried old) (plan_answer harm))
    × (carried new ≡ option_map (plan_after harm) (carried old))
    × (held new ≡ held old)
Ran command.Put old r new =
    (r ≡ put_says (held old) (carried old))
    × (carried new ≡ put_leaves (held old) (carried old))
    × (held new ≡ held old)
Ran command.Take old r new =
    (r ≡ on_carrier (carried old) take_answer)
    × (carried new ≡ option_map take_after (carried old))
    × (held new ≡ take_frame (carried old) (held old))
