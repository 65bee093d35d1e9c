use Rattle.std.proofs.Common.{◌≡◌, ℕ, List, [], ◌∷◌, map, refl, ap, rules, tests}
use Rattle.std.proofs.lemmas.Iterator.{YieldsList-from_map}
use Rattle.std.proofs.lemmas.Iterator.Adapters.{YieldsList-from_bytes}
use Rattle.accbox.specs.Marks.{digit_mark, all_marks}
use Rattle.accbox.specs.Read.{with_first, all_read}
use Rattle.accbox.proofs.marks.read_marks.Goals as goal

each : (word : List ℕ) → all_marks word ≡ all_read (map digit_mark word)
each [] = refl
each (c ∷ rest) = ap (with_first (digit_mark c)) (each rest)

pub returns : goal.returns
returns c = rw each (c.all.ensures _ (YieldsList-from_map _ digit_mark (YieldsList-from_bytes c.args.word.now cc) c.map.ensures.closure (λ x r q k. search (rules, tests))).runs)
