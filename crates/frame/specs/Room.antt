-- The room for five groups in which packets and frames are kept.
use Rattle.std.specs.Prelude.{◌≡◌, ℕ, ◌-◌, ◌*◌, ◌≤◌, List, ◌++◌, length, take, drop, replicate}
use Rattle.frame.specs.Frame.{FrameM, Grouped, parted}
use Rattle.frame.specs.Packet.{IsPacket}
use Rattle.terms.specs.declared.mark.Mark.{Mark}
use Rattle.terms.specs.declared.mark.Mark.TheVariants.{Zero}

-- the items at the front of room for so many, blank behind them
abbrev pub in_room : {X : Type 0} → ℕ → X → List X → List X
in_room size blank xs = xs ++ replicate (size - length xs) blank

-- room for so many items, blank behind the first n
pub record Blank {X : Type 0} (size : ℕ) (blank : X) (n : ℕ) (room : List X) : Type 0 where
  pub long : length room ≡ size
  pub rest : drop n room ≡ replicate (size - n) blank

-- room whose first groups are a packet
pub record PacketRoom (groups : ℕ) (bytes : List ℕ) : Type 0 where
  pub few : groups ≤ 5
  pub packet : IsPacket (take (128 * groups) bytes)
  pub room : Blank 640 0 (128 * groups) bytes

-- what the first groups of the room say
abbrev pub front : ℕ → List ℕ → List Mark → FrameM
front groups bytes marks = parted (take (128 * groups) bytes) (take (8 * groups) marks)

-- room whose first groups are a frame
pub record FrameRoom (groups : ℕ) (bytes : List ℕ) (marks : List Mark) : Type 0 where
  pub frame : Grouped (front groups bytes marks) groups
  pub byte_room : Blank 640 0 (128 * groups) bytes
  pub mark_room : Blank 40 Zero (8 * groups) marks
