use Rattle.std.proofs.Common.{◌≡◌, ℕ, ◌+◌, ◌-◌, ◌≤◌, List, not, eqb, length, position, ap, ◌∙◌, ap₂, rules}
use Rattle.std.specs.List.{zip}
use Rattle.std.proofs.lemmas.List.{take_rest}
use Rattle.frame.specs.Reading.{refused_at}
use Rattle.frame.proofs.Searches.{unit_found}
use Rattle.terms.specs.declared.fault.FrameFault.TheVariants.{Check}
use Rattle.frame.proofs.frame.Frame.check_units.Goals as goal

pub returns : goal.returns
returns c =
    let f = c.args.self.now in
    let bs = c.bytes-bytes.result.now in
    let some : 14 ≤ length bs = search rules in
    let lowest =
    c.lowest_difference.ensures.lowest
    ∙ ap (λ (tail : List ℕ). position (λ (p : ℕ × ℕ). not (eqb p.0 p.1)) (zip tail c.unit_checks.result)) (take_rest bs (length bs - 14))
    ∙ unit_found f bs c.unit_checks.result c.bytes-bytes.ensures.bytes some c.unit_checks.ensures in
    let refused : c.map_or.result ≡ refused_at (λ j. Check (length bs - 14 + j)) c.lowest_difference.result = search rules in
    refused ∙ ap₂ (λ n o. refused_at (λ j. Check (n - 14 + j)) o) (ap length c.bytes-bytes.ensures.bytes) lowest
