-- The shape of a frame, decided.
use Rattle.std.proofs.Common.{◌≡◌, ℕ, ◌/◌, true, length, arith}
use Rattle.std.proofs.lemmas.Bool.{eq-eqb, eqb-true, and_parts, and_from}
use Rattle.frame.specs.Frame.{FrameM, Grouped, IsFrame}
use Rattle.frame.proofs.Protocols.{sized, one_of_five_is}
use Rattle.carrier.specs.Carrying.{is_frame}

pub frame_is : (f : FrameM) (groups : ℕ) → Grouped f groups → is_frame f ≡ true
frame_is f groups g =
    and_from _ _
    (one_of_five_is (length f.bytes) (record { whole = omega (arith, g.bytes_long); some = omega (arith, g.bytes_long, g.some); few = omega (arith, g.bytes_long, g.few) }))
    (eq-eqb _ _ (omega (arith, g.bytes_long, g.marks_long)))

pub is_shaped : (f : FrameM) → is_frame f ≡ true → IsFrame f
is_shaped f e =
    let p = and_parts _ _ e in
    let s = sized (length f.bytes) p.0 in
    let marks : length f.marks ≡ length f.bytes / 16 = eqb-true _ _ p.1 in (
      length f.bytes / 128,
      record {
        some = omega (arith, s.some);
        few = omega (arith, s.few);
        bytes_long = omega (arith, s.whole);
        marks_long = omega (arith, s.whole, marks);
      },
    )
