use Rattle.std.proofs.Common.{◌≡◌, ◌∙◌}
use Rattle.std.proofs.lemmas.Result.{err_from_is_err_and}
use Rattle.frame.specs.Reading.{reading}
use Rattle.frame.specs.declared.frame.Kind.TheVariants.{Protocol, Link}
use Rattle.frame.proofs.Readings.{read_answer, sync_answer, reading_says}
use Rattle.frame.proofs.frame.Frame.read.Goals as goal

pub returns-in_err-check_sync : goal.returns-in_err-check_sync
returns-in_err-check_sync c =
    let f = c.args.self.now in
    let g = c.check_sync.ensures.shape in
    let p = err_from_is_err_and c.from_residual.result c.from_residual.ensures.1 in
    let answer : c.from_residual.result ≡ reading f = rw (p.1, p.2) (sync_answer f _ c.in_err-check_sync.ensures.checked) in
    record { answer = answer; says = reading_says f g.0 g.1 c.from_residual.result answer; shape = g }

pub returns-in-Protocol : goal.returns-in-Protocol
returns-in-Protocol c =
    let f = c.args.self.now in
    let g = c.check_sync.ensures.shape in
    let answer = c.read_protocol.ensures ∙ read_answer f Protocol c.in_ok-check_sync.ensures.checked c.in-Protocol.ensures.kind in
    record { answer = answer; says = reading_says f g.0 g.1 c.read_protocol.result answer; shape = g }

pub returns-in-Link : goal.returns-in-Link
returns-in-Link c =
    let f = c.args.self.now in
    let g = c.check_sync.ensures.shape in
    let answer = c.read_link.ensures ∙ read_answer f Link c.in_ok-check_sync.ensures.checked c.in-Link.ensures.kind in
    record { answer = answer; says = reading_says f g.0 g.1 c.read_link.result answer; shape = g }
