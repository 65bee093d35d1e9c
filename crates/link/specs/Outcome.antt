-- What a call on an end leaves, and what it answers.
use Rattle.std.specs.Prelude.{ℕ, List}
use Rattle.terms.specs.declared.fault.Layer.TheVariants.{End}
use Rattle.terms.specs.declared.fault.Refusal.{Refusal}
use Rattle.terms.specs.declared.reply.Reply.{Reply}
use Rattle.frame.specs.Frame.{FrameM}
use Rattle.link.specs.End.{EndM, object}

-- an end, the frames on their way from it, and those on their way to it
pub record Local : Type 0 where
  pub end : EndM
  pub out : List FrameM
  pub into : List FrameM

pub data Answer : Type 0 where
  taken : ℕ → Answer  -- offer: the ID of the packet
  sent_packet : ℕ → Answer  -- dispatch: a packet under this ID
  sent_reply : Reply → Answer  -- dispatch: this reply
  rewound : Answer  -- late
  holding : ℕ → Answer  -- outstanding: so many packets
  handed_up : ℕ → ℕ → Answer  -- arrive: the ID and the number of bytes of a packet
  released : ℕ → Answer  -- arrive: so many packets
  refused : Refusal → Answer

-- the number that a panel shows, 0 where nothing is refused
abbrev pub number_of : Answer → ℕ
number_of (taken id) = 0
number_of (sent_packet id) = 0
number_of (sent_reply r) = 0
number_of rewound = 0
number_of (holding n) = 0
number_of (handed_up id n) = 0
number_of (released d) = 0
number_of (refused r) = r.number

-- what a call leaves, what it answers, and what the host's buffer then holds; the buffer of a call that has none is empty
pub record Outcome : Type 0 where
  pub left : Local
  pub answer : Answer
  pub buffer : List ℕ

-- the end becomes another, and no frame is put
abbrev pub becomes : Local → EndM → Answer → List ℕ → Outcome
becomes s e x buffer = record { left = record s { end = e }; answer = x; buffer = buffer }

-- refused, and the end stays as it is
abbrev pub refuses : Local → Refusal → List ℕ → Outcome
refuses s r buffer = becomes s s.end (refused r) buffer

-- refused, and the end objects to a frame of protocol kind
abbrev pub drops : Local → Refusal → List ℕ → Outcome
drops s r buffer = becomes s (object s.end) (refused r) buffer

-- a refusal of the end
abbrev pub by_end : ℕ → ℕ → Refusal
by_end number place = record { number = number; layer = End; place = place }
