use Rattle.std.proofs.Common.{◌≡◌, true, None, List, ℕ, length, sym, ◌∙◌}
use Rattle.frame.specs.Packet.{one_of_five, lowest_reserved, IsPacket}
use Rattle.frame.proofs.Copies.{groups_of, clear_is}
use Rattle.frame.proofs.Searches.{reserved_found}
use Rattle.frame.proofs.Views.{packet_made, packet_room}
use Rattle.frame.proofs.packet.Packet.new.Goals as goal

-- bytes of one of the five lengths in which no reserved place is wrong
is_packet : (xs : List ℕ) → true ≡ one_of_five (length xs) → None ≡ lowest_reserved xs → IsPacket xs
is_packet xs whole none = record { long = sym whole; clear = clear_is xs none }

pub returns-in-Some : goal.returns-in-Some
returns-in-Some c =
    let xs = c.args.bytes.now in
    rw (sym c.if-not-is_whole.ensures, sym (reserved_found xs) ∙ sym c.lowest_reserved.ensures ∙ c.in-Some.is)

pub invariant_of-result : goal.invariant_of-result
invariant_of-result c =
    let xs = c.args.bytes.now in
    let whole = c.if-not-is_whole.ensures in
    packet_room _ xs c.in_room.result c.in_room.ensures (groups_of (length xs) (sym whole))
    (is_packet xs whole (sym c.in_default.is ∙ c.lowest_reserved.ensures ∙ reserved_found xs))

pub returns : goal.returns
returns c =
    let xs = c.args.bytes.now in
    let whole = c.if-not-is_whole.ensures in
    let none = sym c.in_default.is ∙ c.lowest_reserved.ensures ∙ reserved_found xs in (
      rw (sym whole, sym none),
      packet_made _ xs c.in_room.result c.in_room.ensures (groups_of (length xs) (sym whole)) (is_packet xs whole none),
    )
