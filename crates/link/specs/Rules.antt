-- The rules of an end: what each of its five calls leaves and answers.
use Rattle.std.specs.Prelude.{◌≡◌, ℕ, Bool, true, false, if◌then◌else◌, List, [], ◌∷◌, ◌++◌, length, drop, Some, None, Ok, Err, Option, Result, ◌==◌, nat_le, nat_lt, slice_index_or}
use Rattle.terms.specs.Fault.{packet_refusal, frame_refusal, host_refusal}
use Rattle.terms.specs.declared.content.Content.{Content}
use Rattle.terms.specs.declared.content.Content.TheVariants as content
use Rattle.terms.specs.declared.fault.FrameFault.{FrameFault}
use Rattle.terms.specs.declared.fault.PacketFault.{PacketFault}
use Rattle.terms.specs.declared.reply.Reply.{Reply}
use Rattle.frame.specs.Form.{kind_of, sealed, reply_frame}
use Rattle.frame.specs.Frame.{FrameM}
use Rattle.frame.specs.Packet.{packet_fault}
use Rattle.frame.specs.Reading.{reading}
use Rattle.frame.specs.Reserved.{cleared}
use Rattle.frame.specs.declared.frame.Kind.{Kind}
use Rattle.frame.specs.declared.frame.Kind.TheVariants.{Protocol, Link}
use Rattle.carrier.specs.Carrying.{groups_of, Added}
use Rattle.carrier.specs.Fault.{carrier_refusal}
use Rattle.carrier.specs.declared.fault.CarrierFault.TheVariants.{Full, NoneWaiting}
use Rattle.link.specs.End.{EndM, cursor_id, distance, hold, rewind, advance, clear_reply, accept, release, rewind_on}
use Rattle.link.specs.Outcome.{Local, Answer, taken, sent_packet, sent_reply, rewound, holding, handed_up, released, Outcome, becomes, refuses, drops, by_end}

abbrev pub offering_unless : Option PacketFault → Local → List ℕ → Outcome
offering_unless (Some fault) s p = refuses s (packet_refusal fault) []
offering_unless None s p =
    if nat_le 16 (length s.end.held) then refuses s (by_end 3 0) []
    else becomes s (hold p s.end) (taken s.end.next) []

-- offer of any bytes: 1 or 2 if they are no packet, 3 if sixteen are held; else the packet is held, and its ID answered
abbrev pub offering : Local → List ℕ → Outcome
offering s p = offering_unless (packet_fault p) s p

-- late: 13 if none of the held packets was ever dispatched; else the cursor goes back to the oldest
abbrev pub rewinding : Local → Outcome
rewinding s = if s.end.sent == 0 then refuses s (by_end 13 0) [] else becomes s (rewind s.end) rewound []

-- outstanding: how many packets are held
abbrev pub counting : Local → Outcome
counting s = becomes s s.end (holding (length s.end.held)) []

-- a frame to put, and what the end becomes and answers once it is put
pub record Sending : Type 0 where
  pub frame : FrameM
  pub end : EndM
  pub answer : Answer

-- the waiting reply goes out, and is cleared
abbrev pub reply_out : Reply → EndM → Sending
reply_out r e = record { frame = reply_frame r; end = clear_reply e; answer = sent_reply r }

-- the held packet at the cursor goes out, and the cursor moves on
abbrev pub packet_out : EndM → Sending
packet_out e = record {
  frame = sealed (cursor_id e) (slice_index_or e.held e.cursor []);
  end = advance e;
  answer = sent_packet (cursor_id e);
}

abbrev pub sending_after : Option Reply → EndM → Option Sending
sending_after (Some r) e = Some (reply_out r e)
sending_after None e = if nat_lt e.cursor (length e.held) then Some (packet_out e) else None

-- what an end has to send: the waiting reply first, then the held packet at the cursor
abbrev pub sending : EndM → Option Sending
sending e = sending_after e.waiting e

-- the outcome once it is put, by what is then on its way
abbrev pub once_put : Local → Sending → List FrameM → Outcome
once_put s w out = record { left = record s { end = w.end; out = out }; answer = w.answer; buffer = [] }

-- the carrier's meaning says what is then on its way: nothing else is open
pub record Sent (s : Local) (w : Sending) (o : Outcome) : Type 0 where
  pub out : List FrameM
  pub added : Added s.out w.frame out
  pub is : o ≡ once_put s w out

abbrev pub SentUnless : Bool → Local → Sending → Outcome → Type 0
SentUnless true s w o = o ≡ refuses s (carrier_refusal Full) []
SentUnless false s w o = Sent s w o

abbrev pub DispatchesAs : (List FrameM → ℕ → Bool) → Local → Option Sending → Outcome → Type 0
DispatchesAs full s None o = o ≡ refuses s (by_end 4 0) []
DispatchesAs full s (Some w) o = SentUnless (full s.out (groups_of w.frame)) s w o

-- dispatch: 4 if there is nothing to send, 5 if the carrier is full; else the frame is put
abbrev pub Dispatches : (List FrameM → ℕ → Bool) → Local → Outcome → Type 0
Dispatches full s o = DispatchesAs full s (sending s.end) o

-- the expected packet: 11 if the buffer is shorter; else it is handed up, and the buffer's first n bytes become the packet
abbrev pub arriving_expected : Local → ℕ → ℕ → FrameM → List ℕ → Outcome
arriving_expected s id n f buffer =
    if nat_lt (length buffer) n then drops s (host_refusal (record { needed = n })) buffer
    else becomes s (accept s.end) (handed_up id n) (cleared f.bytes ++ drop n buffer)

-- a good packet: 10 if it is not the expected one
abbrev pub arriving_packet : Local → ℕ → ℕ → FrameM → List ℕ → Outcome
arriving_packet s id n f buffer = if id == s.end.expected then arriving_expected s id n f buffer else drops s (by_end 10 id) buffer

-- a good reply: 12 if it would release more than were ever dispatched; else the packets up to its ID are released
abbrev pub arriving_reply : Local → Reply → List ℕ → Outcome
arriving_reply s r buffer =
    let d = distance s.end r.id in
    if nat_lt s.end.sent d then refuses s (by_end 12 r.id) buffer
    else becomes s (rewind_on r.kind (release d s.end)) (released d) buffer

-- a broken frame: the end objects to one of protocol kind, and not to one of link kind
abbrev pub arriving_broken : Local → Kind → FrameFault → List ℕ → Outcome
arriving_broken s Protocol fault buffer = drops s (frame_refusal fault) buffer
arriving_broken s Link fault buffer = refuses s (frame_refusal fault) buffer

-- a frame that was taken, by what reading it gives
abbrev pub arriving_read : Result Content FrameFault → Local → FrameM → List ℕ → Outcome
arriving_read (Ok (content.Packet id n)) s f buffer = arriving_packet s id n f buffer
arriving_read (Ok (content.Reply r)) s f buffer = arriving_reply s r buffer
arriving_read (Err fault) s f buffer = arriving_broken s (kind_of f) fault buffer

abbrev pub arriving_from : List FrameM → Local → List ℕ → Outcome
arriving_from [] s buffer = refuses s (carrier_refusal NoneWaiting) buffer
arriving_from (f ∷ rest) s buffer = arriving_read (reading f) (record s { into = rest }) f buffer

-- arrive with the host's buffer: 6 if no frame waits; else the oldest is taken and read
abbrev pub arriving : Local → List ℕ → Outcome
arriving s buffer = arriving_from s.into s buffer
