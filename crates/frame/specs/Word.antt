-- The eight bytes of a link frame that say its reply.
use Rattle.std.specs.Prelude.{◌≡◌, ◌≢◌, ℕ, ◌/◌, ◌%◌, List, [], ◌∷◌, Some, None, Option}
use Rattle.terms.specs.Reply.{kind_byte}
use Rattle.terms.specs.declared.reply.Reply.{Reply}
use Rattle.frame.specs.declared.frame.link.Word.{Word}

-- the tag, the kind, the ID, three reserved bytes and the check
abbrev pub reply_part : Reply → ℕ → ℕ → List ℕ
reply_part r low high = 0xA5 ∷ kind_byte r.kind ∷ r.id ∷ 0 ∷ 0 ∷ 0 ∷ low ∷ high ∷ []

-- the word that the bytes are, its check low byte first, or that they are none
abbrev pub ReadsPart : List ℕ → Option Word → Type 0
ReadsPart xs (Some w) = xs ≡ reply_part w.reply (w.check % 256) (w.check / 256)
ReadsPart xs None = (r : Reply) (low high : ℕ) → xs ≢ reply_part r low high
