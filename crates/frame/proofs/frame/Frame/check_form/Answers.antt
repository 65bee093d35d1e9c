use Rattle.std.proofs.Common.{ap, ◌∙◌, sym, rules}
use Rattle.frame.specs.Reading.{refused_at}
use Rattle.frame.proofs.Searches.{mark_found, byte_found}
use Rattle.terms.specs.declared.fault.FrameFault.TheVariants.{Form}
use Rattle.frame.proofs.frame.Frame.check_form.Goals as goal

pub returns-in-Some : goal.returns-in-Some
returns-in-Some c =
    let m = sym c.in-Some.is ∙ c.lowest_mark.ensures.lowest ∙ mark_found c.args.kind c.args.self.now in
    search rules

pub returns : goal.returns
returns c =
    let f = c.args.self.now in
    let m = sym c.in_default.is ∙ c.lowest_mark.ensures.lowest ∙ mark_found c.args.kind f in
    let b = ap (refused_at Form) (c.lowest_byte.ensures ∙ byte_found c.args.kind f) in
    search rules
