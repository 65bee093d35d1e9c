use Rattle.std.proofs.Common.{sym, ap, ◌∙◌}
use Rattle.carrier.proofs.Handing.{counted, added_here}
use Rattle.carrier.proofs.harming.carries.HarmingCarrier.put.Goals as goal

pub returns-clause-added : goal.returns-clause-added
returns-clause-added g c =
    let waiting = g.C.Carrier.waiting in
    let full = g.C.Carrier.full in
    let old = c.args.self.now.inner in
    let f = c.args.frame.now in
    added_here waiting full old c.next_harm.new.self.inner c.put.new.self c.next_harm.ensures.below f c.in-Some.handed
    (c.in-Some.ensures.worse c.next_harm.ensures.allowed)
    (ap (full (waiting old)) (sym (counted f c.groups.result (sym c.groups.ensures.bytes_long))) ∙ sym c.is_full.ensures ∙ c.if-is_full.false)
    c.put.result c.put.ensures.answer _ c.put.ensures.added
