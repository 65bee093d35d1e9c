use Rattle.std.proofs.Common.{◌<◌, length, ap, ◌∙◌, sym, subst, inr}
use Rattle.carrier.proofs.Harms.{says_good, flip_like}
use Rattle.carrier.proofs.harm.flip.Goals as goal

pub returns-clause-worse : goal.returns-clause-worse
returns-clause-worse c some =
    let f = c.args.frame.now in
    let g = c.bytes.ensures.shape in
    let in' : c.args.place < length f.bytes = subst (λ n. c.args.place < n) (ap length c.bytes.ensures.bytes) c.if-bytes-place.false in
    let good = says_good f c.read.result (sym c.is_err.ensures.value ∙ c.if-is_err.false) c.read.ensures.says in
    inr (flip_like f c.flip.new.self g.0 c.args.place c.args.mask g.1 c.flip.ensures.after (c.flip.ensures.breaks good in' some))
