-- The straight carrier.
use Rattle.std.specs.Prelude.{ℕ, Bool, List, length, nat_le}
use Rattle.frame.specs.Frame.{FrameM}
use Rattle.carrier.specs.Queue.{queue_items}
use Rattle.carrier.specs.declared.straight.Straight.{Straight}

-- what it keeps is what waits
abbrev pub straight_waiting : Straight → List FrameM
straight_waiting s = queue_items s.queue

-- it has room for eight frames of any size
abbrev pub straight_full : List FrameM → ℕ → Bool
straight_full w groups = nat_le 8 (length w)
