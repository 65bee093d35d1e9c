use Rattle.std.proofs.Common.{◌≡◌, ℕ, min, List, [], ◌∷◌, ◌++◌, map, length, ◌<◌, refl, ap, ◌∙◌, arith, rules, tests}
use Rattle.std.specs.Slice.Iter.{chunks_rest, chunks_size, chunks_steps}
use Rattle.std.proofs.lemmas.List.{nil_from_length}
use Rattle.std.proofs.lemmas.Iterator.{YieldsList-from_map}
use Rattle.std.proofs.lemmas.Iterator.Consumers.{YieldsList-at}
use Rattle.std.proofs.lemmas.Iterator.Splits.{YieldsList-from_shown_while}
use Rattle.accbox.specs.Hex.{hex_byte, hex_bytes}
use Rattle.accbox.specs.Read.{with_first, all_read}
use Rattle.accbox.proofs.hex.read_bytes.Goals as goal

-- the pairs of letters, the last of which may be a single one
abbrev pairs : List ℕ → List (List ℕ)
pairs [] = []
pairs (a ∷ []) = (a ∷ []) ∷ []
pairs (a ∷ b ∷ rest) = (a ∷ b ∷ []) ∷ pairs rest

each : (word : List ℕ) → hex_bytes word ≡ all_read (map hex_byte (pairs word))
each [] = refl
each (a ∷ []) = refl
each (a ∷ b ∷ rest) = ap (with_first (hex_byte (a ∷ b ∷ []))) (each rest)

first : (word pair rest : List ℕ) → word ≡ pair ++ rest → length pair ≡ min 2 (length word) → 0 < length word → pairs word ≡ pair ∷ pairs rest
first word [] rest is e h = absurd (omega (arith, ap length is))
first word (a ∷ []) [] is e h = rw is refl
first word (a ∷ []) (b ∷ rest) is e h = absurd (omega (arith, ap length is))
first word (a ∷ b ∷ []) rest is e h = rw is refl
first word (a ∷ b ∷ c ∷ more) rest is e h = absurd (omega (arith, ap length is))

pub returns : goal.returns
returns c =
    let chunks = YieldsList-from_shown_while chunks_steps (λ x. x.now) (λ s. pairs (chunks_rest s)) (λ s. chunks_size s ≡ 2) (λ s t two step. rw (nil_from_length (chunks_rest s) step.1.0) refl) (λ s x t two step. (step.0 ∙ two, first _ _ _ step.1.0 (rw two at step.1.1) step.1.2)) c.chunks.result c.chunks.ensures.size in
    let word : chunks_rest c.chunks.result ≡ c.args.word.now = search rules in
    rw (each, ← word) (c.all.ensures _ (YieldsList-from_map _ hex_byte (YieldsList-at c.map.ensures.source chunks) c.map.ensures.closure (λ x r q k. search (rules, tests))).runs)
