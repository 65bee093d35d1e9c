-- Runs of calls on a pair of ends.
use Rattle.std.specs.Prelude.{◌≡◌, ℕ, Bool, List, [], ◌∷◌}
use Rattle.frame.specs.Frame.{FrameM}
use Rattle.link.specs.declared.side.Side.{Side}
use Rattle.link.specs.declared.side.Side.TheVariants.{A, B}
use Rattle.link.specs.End.{EndM, fresh}
use Rattle.link.specs.Outcome.{Local, Answer, Outcome}
use Rattle.link.specs.Rules.{offering, rewinding, counting, Dispatches, arriving}

-- a call with what is handed in: the bytes of an offer, the host's buffer of an arrive
pub data Call : Type 0 where
  offer : List ℕ → Call
  dispatch : Call
  late : Call
  outstanding : Call
  arrive : List ℕ → Call

-- one call on one end, what it answered, and the host's buffer after it
pub record Event : Type 0 where
  pub side : Side
  pub call : Call
  pub answer : Answer
  pub buffer : List ℕ

-- the ends a and b, the frames on their way from a to b, and those on their way back
pub record PairM : Type 0 where
  pub a : EndM
  pub b : EndM
  pub there : List FrameM
  pub back : List FrameM

-- fresh ends, and no frame on its way
abbrev pub fresh_pair : PairM
fresh_pair = record { a = fresh; b = fresh; there = []; back = [] }

-- the pair as the end of one side sees it
abbrev pub seen_by : Side → PairM → Local
seen_by A s = record { end = s.a; out = s.there; into = s.back }
seen_by B s = record { end = s.b; out = s.back; into = s.there }

-- the end of the other side
abbrev pub across : Side → PairM → EndM
across A s = s.b
across B s = s.a

-- when a carrier is full, by the frames that wait and the number of groups offered
abbrev pub Fullness : Type 0
Fullness = List FrameM → ℕ → Bool

-- a call on an end whose carrier is full so, and its outcome: what the rules compute; of a dispatch, what they allow
abbrev pub Does : Fullness → Local → Call → Outcome → Type 0
Does full s (offer p) o = o ≡ offering s p
Does full s dispatch o = Dispatches full s o
Does full s late o = o ≡ rewinding s
Does full s outstanding o = o ≡ counting s
Does full s (arrive buffer) o = o ≡ arriving s buffer

-- the carrier there takes the frames of a, the carrier back those of b
module _ (there back : Fullness) where
  abbrev pub full_from : Side → Fullness
  full_from A = there
  full_from B = back

  -- the end of one side makes a call, and the other end stays as it is
  pub record Step (s : PairM) (e : Event) (t : PairM) : Type 0 where
    pub does : Does (full_from e.side) (seen_by e.side s) e.call (record { left = seen_by e.side t; answer = e.answer; buffer = e.buffer })
    pub stays : across e.side t ≡ across e.side s

  -- any number of calls, in any order
  pub data Run : PairM → List Event → PairM → Type 0 where
    start : {s : PairM} → Run s [] s
    next : {s t u : PairM} {e : Event} {es : List Event} → Step s e t → Run t es u → Run s (e ∷ es) u
