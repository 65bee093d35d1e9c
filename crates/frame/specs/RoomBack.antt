-- What stands at the front of a room gives the room back: proofs, which stand here since the models of a packet and a frame name them.
use Rattle.std.proofs.Common.{◌≡◌, ℕ, ◌-◌, ◌*◌, ◌/◌, ◌≤◌, List, ◌++◌, length, take, replicate, ap, ◌∙◌, sym, arith}
use Rattle.std.proofs.lemmas.List.{length-take-le, take-append-drop}
use Rattle.frame.specs.Room.{in_room, Blank, PacketRoom, FrameRoom}
use Rattle.terms.specs.declared.mark.Mark.{Mark}
use Rattle.terms.specs.declared.mark.Mark.TheVariants.{Zero}

-- the first n items, put back into blank room
pub room_back : {X : Type 0} (size : ℕ) (blank : X) (n : ℕ) (room : List X) → n ≤ size → Blank size blank n room → in_room size blank (take n room) ≡ room
room_back size blank n room h b =
    ap (λ k. take n room ++ replicate (size - k) blank) (length-take-le n room (omega (arith, b.long)))
    ∙ ap (λ rest. take n room ++ rest) (sym b.rest)
    ∙ take-append-drop n room

long : (groups : ℕ) (bytes : List ℕ) → groups ≤ 5 → Blank 640 0 (128 * groups) bytes → length (take (128 * groups) bytes) / 128 ≡ groups
long groups bytes few b = ap (λ n. n / 128) (length-take-le (128 * groups) bytes (omega (arith, b.long))) ∙ omega arith

pub packet_back : (groups : ℕ) (bytes : List ℕ) → PacketRoom groups bytes → (length (take (128 * groups) bytes) / 128 ≡ groups) × (in_room 640 0 (take (128 * groups) bytes) ≡ bytes)
packet_back groups bytes r = (long groups bytes r.few r.room, room_back 640 0 (128 * groups) bytes (omega (arith, r.few)) r.room)

pub frame_back : (groups : ℕ) (bytes : List ℕ) (marks : List Mark) → FrameRoom groups bytes marks
    → (length (take (128 * groups) bytes) / 128 ≡ groups) × (in_room 640 0 (take (128 * groups) bytes) ≡ bytes) × (in_room 40 Zero (take (8 * groups) marks) ≡ marks)
frame_back groups bytes marks r =
    let few = r.frame.few in (
      long groups bytes few r.byte_room,
      room_back 640 0 (128 * groups) bytes (omega (arith, few)) r.byte_room,
      room_back 40 Zero (8 * groups) marks (omega (arith, few)) r.mark_room,
    )
