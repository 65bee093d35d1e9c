-- A frame, a packet and the room that they stand in.
use Rattle.std.proofs.Common.{◌≡◌, ℕ, ◌+◌, ◌-◌, ◌*◌, ◌<◌, ◌≤◌, List, length, get_or, take, drop, replicate, set, sym, ap, ◌∙◌, subst, ap₂, arith, length-append}
use lib.Bits.{bit_xor}
use lib.Seq.{take-set-lt}
use Rattle.std.proofs.lemmas.List.{get_or-take, length-replicate, take_at, drop_at}
use Rattle.frame.specs.Frame.{FrameM, Grouped, parted, byte_at, flipped, marked}
use Rattle.frame.specs.Packet.{IsPacket}
use Rattle.frame.specs.Room.{in_room, Blank, PacketRoom, front, FrameRoom}
use Rattle.frame.proofs.Protocols.{sized}
use Rattle.terms.specs.declared.mark.Mark.{Mark}
use Rattle.terms.specs.declared.mark.Mark.TheVariants.{Zero}

-- room that was made of items is blank behind them, and begins with them
module _ {X : Type 0} (size : ℕ) (blank : X) (n : ℕ) (xs room : List X) (is : room ≡ in_room size blank xs) (l : length xs ≡ n) (few : n ≤ size) where
  pub made_front : take n room ≡ xs
  made_front = ap (take n) is ∙ take_at xs (replicate (size - length xs) blank) n l

  pub made_blank : Blank size blank n room
  made_blank = record {
    long = ap length is ∙ length-append xs (replicate (size - length xs) blank) ∙ ap (λ k. length xs + k) (length-replicate (size - length xs) blank) ∙ omega arith;
    rest = ap (drop n) is ∙ drop_at xs (replicate (size - length xs) blank) n l ∙ ap (λ k. replicate (size - k) blank) l;
  }

-- room with one item of the front changed
module _ {X : Type 0} (size : ℕ) (blank : X) (n : ℕ) (room : List X) (b : Blank size blank n room) (k : ℕ) (x : X) (h : k < n) where
  pub set_front : take n (set room k x) ≡ set (take n room) k x
  set_front = take-set-lt n room k x h

-- items that are a frame, and their room
module _ (groups : ℕ) (xs bytes : List ℕ) (ms marks : List Mark) (byte_is : bytes ≡ in_room 640 0 xs) (mark_is : marks ≡ in_room 40 Zero ms) (g : Grouped (parted xs ms) groups) where
  pub made : front groups bytes marks ≡ parted xs ms
  made =
      let few = g.few in
      ap₂ parted
      (made_front 640 0 (128 * groups) xs bytes byte_is g.bytes_long (omega arith))
      (made_front 40 Zero (8 * groups) ms marks mark_is g.marks_long (omega arith))

  pub made_room : FrameRoom groups bytes marks
  made_room =
      let few = g.few in
      record {
        frame = subst (λ f. Grouped f groups) (sym made) g;
        byte_room = made_blank 640 0 (128 * groups) xs bytes byte_is g.bytes_long (omega arith);
        mark_room = made_blank 40 Zero (8 * groups) ms marks mark_is g.marks_long (omega arith);
      }

-- the frame that stands in a room
module _ (groups : ℕ) (bytes : List ℕ) (marks : List Mark) (r : FrameRoom groups bytes marks) where
  abbrev frame : FrameM
  frame = front groups bytes marks

  pub view_byte : (k : ℕ) → k < 128 * groups → get_or bytes k 0 ≡ byte_at frame k
  view_byte k h = sym (get_or-take (128 * groups) bytes k 0 h)

  pub view_flipped : (k m : ℕ) → k < 128 * groups → front groups (set bytes k (bit_xor (get_or bytes k 0) m)) marks ≡ flipped frame k m
  view_flipped k m h =
      ap (λ bs. parted bs frame.marks)
      (set_front 640 0 (128 * groups) bytes r.byte_room k _ h ∙ ap (λ b. set frame.bytes k (bit_xor b m)) (view_byte k h))

  pub view_marked : (c : ℕ) (m : Mark) → c < 8 * groups → front groups bytes (set marks c m) ≡ marked frame c m
  view_marked c m h = ap (parted frame.bytes) (set_front 40 Zero (8 * groups) marks r.mark_room c m h)

-- bytes that are a packet, and their room
module _ (groups : ℕ) (xs bytes : List ℕ) (is : bytes ≡ in_room 640 0 xs) (long : 128 * groups ≡ length xs) (p : IsPacket xs) where
  pub packet_made : take (128 * groups) bytes ≡ xs
  packet_made = let s = (sized (length xs) p.long).few in made_front 640 0 (128 * groups) xs bytes is (sym long) (omega arith)

  pub packet_room : PacketRoom groups bytes
  packet_room =
      let s = (sized (length xs) p.long).few in
      record {
        few = omega arith;
        packet = subst IsPacket (sym packet_made) p;
        room = made_blank 640 0 (128 * groups) xs bytes is (sym long) (omega arith);
      }
