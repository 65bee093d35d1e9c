use Rattle.std.proofs.Common.{◌≡◌, ◌/◌, length, ap, ◌∙◌, inl, inr, arith}
use Rattle.crc.specs.Check.{run}
use Rattle.frame.specs.Units.{counted, unit_bytes, unit_check}
use Rattle.frame.proofs.Protocols.{sized}
use Rattle.frame.proofs.Window.{unit_more}
use Rattle.frame.proofs.units.unit_check.Goals as goal
use Rattle.frame.proofs.units.unit_check.Goals.{then-at-eq0, else-at-eq0, then-at-bytes, else-at-bytes}

pub loop-g-preserved : goal.loop-g-preserved
loop-g-preserved c =
    let s = sized (length c.args.bytes.now) c.requires.whole in
    unit_more 8 0xA1 c.args.bytes.now c.args.unit c.loop-g.g c.if-at-eq0.lead c.if-at-bytes.trail
    c.loop-g.check.state c.feed_zeros.new.self.state c.feed.new.self.state c.feed_zeros-in-loop-g.new.self.state
    (omega arith) (omega arith)
    (elim c.if-at-eq0.branch [ then-at-eq0 w ↦ inl (omega arith, w.lead-is) | else-at-eq0 w ↦ inr (omega arith, w.lead-is) ])
    (elim c.if-at-bytes.branch [ then-at-bytes w ↦ inl (omega arith, w.trail-is) | else-at-bytes w ↦ inr (omega arith, w.trail-is) ])
    c.loop-g.invariant c.feed_zeros.ensures c.feed.ensures.after c.feed_zeros-in-loop-g.ensures

pub returns : goal.returns
unfolding unit_check
returns c =
    let s = sized (length c.args.bytes.now) c.requires.whole in
    c.state.ensures
    ∙ c.loop-g.invariant
    ∙ ap (λ n. run 8 0xA1 0 (unit_bytes (counted c.args.bytes.now) c.args.unit n)) (let z : c.loop-g.g ≡ length c.args.bytes.now / 128 = omega arith in z)
