-- A worked run: a packet is lost, the one behind it is refused, a NAK brings both again, a repeat is refused, and one packet is released.
use Rattle.std.specs.Prelude.{ℕ, true, false, List, [], ◌∷◌, ◌++◌, replicate, None}
use Rattle.link.specs.declared.side.Side.{Side}
use Rattle.link.specs.declared.side.Side.TheVariants.{A, B}
use Rattle.link.specs.End.{nak}
use Rattle.link.specs.Outcome.{Answer, taken, sent_packet, sent_reply, rewound, holding, handed_up, released, refused, by_end}
use Rattle.link.specs.Runs.{Call, offer, dispatch, late, outstanding, arrive, Event, PairM}

-- a packet of 128 bytes, with one value at every place that is not reserved
abbrev pub filled : ℕ → List ℕ
filled b = replicate 2 0 ++ replicate 112 b ++ replicate 14 0

-- a host's buffer of 640 bytes
abbrev pub buffer : List ℕ
buffer = replicate 640 0xEE

-- a call that has no buffer
abbrev pub call : Side → Call → Answer → Event
call d c x = record { side = d; call = c; answer = x; buffer = [] }

-- an arrive that leaves the buffer as it is
abbrev pub arrival : Side → Answer → Event
arrival d x = record { side = d; call = arrive buffer; answer = x; buffer = buffer }

abbrev pub worked : List Event
worked =
    call A (offer (filled 7)) (taken 0)
    ∷ call A (offer (filled 8)) (taken 1)
    -- the carrier loses this one
    ∷ call A dispatch (sent_packet 0)
    ∷ call A dispatch (sent_packet 1)
    ∷ arrival B (refused (by_end 10 1))
    ∷ call B dispatch (sent_reply (nak 255))
    ∷ arrival A (released 0)
    ∷ call A dispatch (sent_packet 0)
    ∷ record { side = B; call = arrive buffer; answer = handed_up 0 128; buffer = filled 7 ++ replicate 512 0xEE }
    ∷ call A late rewound
    ∷ call A dispatch (sent_packet 0)
    ∷ arrival B (refused (by_end 10 0))
    ∷ call B dispatch (sent_reply (nak 0))
    ∷ arrival A (released 1)
    ∷ call A outstanding (holding 1)
    ∷ []

-- the pair after it
abbrev pub worked_pair : PairM
worked_pair = record {
  a = record { next = 2; held = filled 8 ∷ []; sent = 1; cursor = 0; expected = 0; flag = false; waiting = None };
  b = record { next = 0; held = []; sent = 0; cursor = 0; expected = 1; flag = true; waiting = None };
  there = [];
  back = [];
}
