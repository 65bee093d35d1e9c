use Rattle.std.proofs.Common.{◌≡◌, List, ℕ, Option, Result, Some, Ok, Err, IfOk, refl, subst}
use Rattle.std.specs.Fn.{FnOnceReturnsAt}
use Rattle.std.specs.Result.{result_ok}
use Rattle.accbox.proofs.words.Words.read.Goals as goal

of_some : {X E : Type 0} (P : Option X → Type 0) (o : Option X) (r : Result X E) → P o → o ≡ result_ok r → IfOk r (λ x. P (Some x))
of_some P o (Ok x) p e = subst P e p
of_some P o (Err y) p e = tt

pub returns : goal.returns
returns g c = of_some (λ o. (word : List ℕ) × FnOnceReturnsAt g.F.FnOnce c.args.read word o) c.read.result c.ok_or.result (c.in_ok-word.field-0.now, (c.in_ok-word.field-0, c.read.ensures, refl)) c.ok_or.ensures.ok_part
