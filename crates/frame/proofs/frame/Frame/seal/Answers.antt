use Rattle.std.proofs.Common.{sym, ap, ◌∙◌, subst}
use Rattle.frame.specs.Reading.{reading}
use Rattle.frame.specs.Unpacking.{Unpacks}
use Rattle.frame.proofs.Readings.{reads_sealed}
use Rattle.frame.proofs.Seals.{sealed_room, sealed_made}
use Rattle.frame.proofs.Unpacked.{unpacks_sealed}
use Rattle.frame.proofs.frame.Frame.seal.Goals as goal

pub invariant_of-result : goal.invariant_of-result
invariant_of-result c =
    sealed_room c.args.id c.args.packet.now c.bytes-size.ensures.packet _ _ _ _ _ _
    c.bytes-size.ensures.bytes c.bytes.ensures.bytes c.in_room-room.ensures c.unit_checks-checks.ensures c.put_trailer.ensures c.marks.ensures

pub returns : goal.returns
returns c =
    let id = c.args.id in
    let p = c.args.packet.now in
    let is = c.bytes-size.ensures.packet in
    let made =
    sealed_made id p is _ _ _ _ _ _
    c.bytes-size.ensures.bytes c.bytes.ensures.bytes c.in_room-room.ensures c.unit_checks-checks.ensures c.put_trailer.ensures c.marks.ensures in
    record {
      made = made;
      reads = ap reading made ∙ reads_sealed id p is;
      unpacks = subst (λ f. Unpacks f id p) (sym made) (unpacks_sealed id p is);
      packet = is;
    }
