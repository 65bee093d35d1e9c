-- The worked figures of the rules, in one table: what the rules give, and what it is to be.
use Rattle.std.specs.Prelude.{◌≡◌, ℕ, false, List, [], ◌∷◌, length, take, drop, replicate, Some, None, Option, slice_set}
use Rattle.std.specs.List.{AllByRecursion}
use Rattle.terms.specs.Reply.{kind_byte}
use Rattle.terms.specs.declared.mark.Mark.TheVariants.{Data}
use Rattle.terms.specs.declared.reply.Reply.{Reply}
use Rattle.frame.specs.Form.{sealed, reply_frame}
use Rattle.frame.specs.Frame.{FrameM, byte_at, parted}
use Rattle.link.specs.Totals.{released_by}
use Rattle.link.specs.End.{EndM, fresh, ack}
use Rattle.link.specs.Outcome.{Outcome, number_of}
use Rattle.link.specs.Rules.{arriving}

-- the check of unit 1, at place 115 of one group that is zero but for that unit's last byte, at place 31
abbrev pub unit_1 : ℕ → List ℕ
unit_1 b = byte_at (sealed 0 (slice_set (replicate 128 0) 31 b)) 115 ∷ []

-- places 8 to 15 of an ACK with ID 0
abbrev pub ack_0 : List ℕ
ack_0 = take 8 (drop 8 (reply_frame (ack 0)).bytes)

-- an end that holds the packets 254, 255 and 0, all three sent
abbrev pub around_zero : EndM
around_zero = record { next = 1; held = replicate 3 (replicate 128 0); sent = 3; cursor = 3; expected = 0; flag = false; waiting = None }

-- what becomes of an end at which one frame arrives
abbrev pub with_frame : EndM → FrameM → Outcome
with_frame e f = arriving (record { end = e; out = []; into = f ∷ [] }) []

-- how many packets an ACK releases there, the number of its refusal or 0, and how many packets are held then
abbrev pub ack_there : ℕ → List ℕ
ack_there id =
    let o = with_frame around_zero (reply_frame (ack id)) in
    released_by o.answer ∷ number_of o.answer ∷ length o.left.end.held ∷ []

-- the kind and the ID of a reply
abbrev pub reply_row : Option Reply → List ℕ
reply_row None = []
reply_row (Some r) = kind_byte r.kind ∷ r.id ∷ []

-- the reply of a fresh end to a first frame that is broken and of protocol kind
abbrev pub first_broken : List ℕ
first_broken = reply_row (with_frame fresh (parted (replicate 128 0) (replicate 8 Data))).left.end.waiting

abbrev pub figures : List (List ℕ × List ℕ)
figures =
    (unit_1 0x01, 0xA1 ∷ [])
    ∷ (unit_1 0x80, 0x49 ∷ [])
    ∷ (unit_1 0xFF, 0x11 ∷ [])
    ∷ (ack_0, 0xA5 ∷ 0x00 ∷ 0x00 ∷ 0x00 ∷ 0x00 ∷ 0x00 ∷ 0xAF ∷ 0x18 ∷ [])
    ∷ (ack_there 0, 3 ∷ 0 ∷ 0 ∷ [])
    ∷ (ack_there 253, 0 ∷ 0 ∷ 3 ∷ [])
    ∷ (ack_there 1, 0 ∷ 12 ∷ 3 ∷ [])
    ∷ (first_broken, 0x80 ∷ 255 ∷ [])
    ∷ []

-- each is what it is to be
abbrev pub Hold : Type 0
Hold = AllByRecursion (λ (f : List ℕ × List ℕ). f.0 ≡ f.1) figures
