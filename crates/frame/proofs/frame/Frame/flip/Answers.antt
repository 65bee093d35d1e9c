use Rattle.std.proofs.Common.{◌<◌, sym, ap, ◌∙◌, subst, rules}
use Rattle.frame.specs.Frame.{Grouped, byte_at, flipped}
use Rattle.frame.specs.Reading.{Broken}
use Rattle.frame.proofs.Flips.{flip_breaks}
use Rattle.frame.proofs.Views.{view_byte, view_flipped}
use Rattle.frame.proofs.frame.Frame.flip.Goals as goal

pub returns-then-place-self : goal.returns-then-place-self
returns-then-place-self c =
    let r = c.self.invariant in
    let k = c.args.place in
    let m = c.args.mask in
    let inside = c.if-place-self.true in
    let after = view_flipped _ _ _ r k m inside ∙ ap (λ f. flipped f k m) c.self.view_is in
    let shape = subst (λ f. Grouped f c.self.inside.groups) c.self.view_is r.frame in
    record {
      after = after;
      breaks = λ good in' some.
          subst Broken (sym after)
          (flip_breaks c.args.self.now c.self.inside.groups shape k m in'
          (subst (λ b. b < 256) (view_byte _ _ _ r k inside ∙ ap (λ f. byte_at f k) c.self.view_is) (search rules)) some (search rules) good);
      shape = (c.self.inside.groups, shape);
    }
