use Rattle.std.proofs.Common.{◌≡◌, ℕ, ◌*◌, ◌/◌, true, length, replicate, sym, ap, ◌∙◌, rules}
use Rattle.std.proofs.lemmas.List.{length-replicate, take-replicate}
use Rattle.std.proofs.lemmas.Slice.{overwrites}
use Rattle.frame.specs.Packet.{one_of_five, IsPacket}
use Rattle.frame.specs.Reserved.{cleared}
use Rattle.frame.specs.Room.{in_room}
use Rattle.frame.proofs.Copies.{groups_of}
use Rattle.frame.proofs.Placed.{cleared_long, cleared_twice}
use Rattle.frame.proofs.Protocols.{sized}
use Rattle.frame.proofs.Views.{packet_made, packet_room}
use Rattle.frame.proofs.packet.Packet.filled.Goals as goal

-- what is filled and cleared is a packet
filled_packet : (size fill : ℕ) → one_of_five size ≡ true → IsPacket (cleared (replicate size fill))
filled_packet size fill whole =
    let xs = replicate size fill in
    record { long = ap one_of_five (cleared_long xs ∙ length-replicate size fill) ∙ whole; clear = cleared_twice xs }

filled_groups : (size fill : ℕ) → one_of_five size ≡ true → 128 * (size / 128) ≡ length (cleared (replicate size fill))
filled_groups size fill whole = groups_of size whole ∙ sym (cleared_long (replicate size fill) ∙ length-replicate size fill)

pub invariant_of-result : goal.invariant_of-result
invariant_of-result c =
    let size = c.args.size in
    let whole : one_of_five size ≡ true = sym c.if-not-is_whole.ensures in
    let made = c.clear_reserved.ensures ∙ ap cleared (take-replicate size 640 c.args.fill (sized size whole).few) in
    let is : c.in_room.result ≡ in_room 640 0 (cleared (replicate size c.args.fill)) = search (rules, overwrites) in
    packet_room _ _ c.in_room.result is (filled_groups size c.args.fill whole) (filled_packet size c.args.fill whole)

pub returns : goal.returns
returns c =
    let size = c.args.size in
    let whole : one_of_five size ≡ true = sym c.if-not-is_whole.ensures in
    let made = c.clear_reserved.ensures ∙ ap cleared (take-replicate size 640 c.args.fill (sized size whole).few) in
    let is : c.in_room.result ≡ in_room 640 0 (cleared (replicate size c.args.fill)) = search (rules, overwrites) in
    (whole, packet_made _ _ c.in_room.result is (filled_groups size c.args.fill whole) (filled_packet size c.args.fill whole))
