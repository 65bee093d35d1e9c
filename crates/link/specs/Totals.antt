-- What the calls of one end took, handed up and released, from their answers alone.
use Rattle.std.specs.Prelude.{ℕ, ◌+◌, List, [], ◌∷◌, ◌++◌, length, take}
use Rattle.link.specs.declared.counts.Counts.{Counts}
use Rattle.link.specs.declared.side.Side.{Side}
use Rattle.link.specs.declared.side.Side.TheVariants.{A, B}
use Rattle.link.specs.Outcome.{Answer, taken, sent_packet, sent_reply, rewound, holding, handed_up, released, refused}
use Rattle.link.specs.Runs.{Call, offer, dispatch, late, outstanding, arrive, Event, PairM, seen_by}

-- the bytes, if the answer says that they were taken
abbrev pub taken_if : Answer → List ℕ → List (List ℕ)
taken_if (taken id) p = p ∷ []
taken_if (sent_packet id) p = []
taken_if (sent_reply r) p = []
taken_if rewound p = []
taken_if (holding n) p = []
taken_if (handed_up id n) p = []
taken_if (released d) p = []
taken_if (refused r) p = []

-- the packet of an accepted offer
abbrev pub taken_by : Call → Answer → List (List ℕ)
taken_by (offer p) x = taken_if x p
taken_by dispatch x = []
taken_by late x = []
taken_by outstanding x = []
taken_by (arrive buffer) x = []

-- the first n bytes of the buffer after an arrive that answered an ID and n
abbrev pub handed_by : Answer → List ℕ → List (List ℕ)
handed_by (taken id) buffer = []
handed_by (sent_packet id) buffer = []
handed_by (sent_reply r) buffer = []
handed_by rewound buffer = []
handed_by (holding n) buffer = []
handed_by (handed_up id n) buffer = take n buffer ∷ []
handed_by (released d) buffer = []
handed_by (refused r) buffer = []

-- the number of packets that a call answered to have released
abbrev pub released_by : Answer → ℕ
released_by (taken id) = 0
released_by (sent_packet id) = 0
released_by (sent_reply r) = 0
released_by rewound = 0
released_by (holding n) = 0
released_by (handed_up id n) = 0
released_by (released d) = d
released_by (refused r) = 0

-- x at the one side, y at the other
abbrev pub at_side : {X : Type 0} → Side → Side → X → X → X
at_side A A x y = x
at_side A B x y = y
at_side B A x y = y
at_side B B x y = x

-- the packets that were taken at a side, in order
abbrev pub all_taken : Side → List Event → List (List ℕ)
all_taken d [] = []
all_taken d (e ∷ es) = at_side d e.side (taken_by e.call e.answer) [] ++ all_taken d es

-- the packets that were handed up at a side, in order
abbrev pub all_handed : Side → List Event → List (List ℕ)
all_handed d [] = []
all_handed d (e ∷ es) = at_side d e.side (handed_by e.answer e.buffer) [] ++ all_handed d es

-- how many packets were released at a side
abbrev pub all_released : Side → List Event → ℕ
all_released d [] = 0
all_released d (e ∷ es) = at_side d e.side (released_by e.answer) 0 + all_released d es

abbrev pub other : Side → Side
other A = B
other B = A

-- one direction after a run: what its near end took, released and holds, and what its far end handed up
abbrev pub counts : Side → List Event → PairM → Counts
counts near es t = record {
  taken = length (all_taken near es);
  handed_up = length (all_handed (other near) es);
  released = all_released near es;
  held = length (seen_by near t).end.held;
}
