use Rattle.std.proofs.Common.{ap, ◌∙◌, subst}
use Rattle.frame.specs.Frame.{Grouped, marked}
use Rattle.frame.proofs.Views.{view_marked}
use Rattle.frame.proofs.frame.Frame.set_mark.Goals as goal

pub returns-then-character-self : goal.returns-then-character-self
returns-then-character-self c =
    record {
      after =
          view_marked _ _ _ c.self.invariant c.args.character c.args.mark c.if-character-self.true
          ∙ ap (λ f. marked f c.args.character c.args.mark) c.self.view_is;
      shape = (c.self.inside.groups, subst (λ f. Grouped f c.self.inside.groups) c.self.view_is c.self.invariant.frame);
    }
