-- A link frame by its facts: its marks, its fixed bytes and its check.
use Rattle.std.proofs.Common.{◌≡◌, ℕ, ◌+◌, ◌/◌, ◌%◌, ◌<◌, ◌≤◌, true, cond, ◌||◌, eqb, List, length, get_or, take, drop, sym, refl, ap, ◌∙◌, subst, ap₂, inl, inr, arith, lit<}
use Rattle.std.proofs.lemmas.List.FromFn.{fill_by_all}
use Rattle.std.proofs.lemmas.List.{length-take, length-drop, get_or-take, get_or-drop}
use Rattle.crc.specs.Check.{link_check}
use Rattle.std.proofs.lemmas.Bool.{cases_eq}
use Rattle.std.proofs.lemmas.Bool.Decides.{nat_tests}
use Rattle.frame.specs.Form.{link_allows, reply_check, link_byte, reply_frame}
use Rattle.frame.specs.Frame.{FrameM, Grouped, byte_at, mark_at}
use Rattle.terms.specs.Mark.{mark_number}
use Rattle.terms.specs.Reply.{kind_byte}
use Rattle.frame.specs.Reading.{reply_of, word_check}
use Rattle.frame.specs.declared.frame.Kind.TheVariants.{Link}
use Rattle.terms.specs.declared.mark.Mark.TheVariants.{Zero, Control}
use Rattle.terms.specs.declared.reply.Reply.{Reply}
use Rattle.terms.specs.declared.reply.ReplyKind.{ReplyKind}
use Rattle.terms.specs.declared.reply.ReplyKind.TheVariants.{Ack, Nak}
use Rattle.frame.proofs.Placed.{framed_long, framed_marks_long, framed_byte, framed_mark, is_framed}
use Rattle.frame.proofs.Protocols.{same_mark}

pub record LinkForm (f : FrameM) : Type 0 where
  pub one : length f.bytes ≡ 128
  pub marks : (c : ℕ) → c < length f.marks → mark_at f c ≡ 2
  pub bytes : (k : ℕ) → k < 128 → link_allows k (byte_at f k) ≡ true
  pub low : byte_at f 14 ≡ reply_check (reply_of f) % 256
  pub high : byte_at f 15 ≡ reply_check (reply_of f) / 256

kind_allowed : (k : ReplyKind) → (eqb (kind_byte k) 0x00 || eqb (kind_byte k) 0x80) ≡ true
kind_allowed Ack = refl
kind_allowed Nak = refl

kind_back : (k : ReplyKind) → cond (eqb (kind_byte k) 0x80) Nak Ack ≡ k
kind_back Ack = refl
kind_back Nak = refl

-- the byte that the rules let stand at place 9 is the byte of the kind that it names
pub kind_there : (b : ℕ) → link_allows 9 b ≡ true → b ≡ kind_byte (cond (eqb b 0x80) Nak Ack)
unfolding link_allows
kind_there b e = elim (cases_eq b 0x80) [
  | inl is ↦ is ∙ ap (λ x. kind_byte (cond (eqb x 0x80) Nak Ack)) (sym is)
  | inr not ↦ let zero : b ≡ 0 = grind (arith, nat_tests) in zero ∙ ap (λ x. kind_byte (cond (eqb x 0x80) Nak Ack)) (sym zero)
]

allowed_made : (r : Reply) (k : ℕ) → link_allows k (link_byte r k) ≡ true
unfolding link_allows link_byte
allowed_made r k = let a = kind_allowed r.kind in grind (arith, nat_tests)

byte_kind : (r : Reply) → link_byte r 9 ≡ kind_byte r.kind
unfolding link_byte
byte_kind r = refl

byte_id : (r : Reply) → link_byte r 10 ≡ r.id
unfolding link_byte
byte_id r = refl

pub byte_low : (r : Reply) → link_byte r 14 ≡ reply_check r % 256
unfolding link_byte
byte_low r = refl

pub byte_high : (r : Reply) → link_byte r 15 ≡ reply_check r / 256
unfolding link_byte
byte_high r = refl

-- the six bytes that the link check runs over, as a reply frame has them
pub word_is : (r : Reply) (xs : List ℕ) → length xs ≡ 128 → ((k : ℕ) → 8 ≤ k → k < 14 → get_or xs k 0 ≡ link_byte r k) → link_check (take 6 (drop 8 xs)) ≡ reply_check r
unfolding link_byte reply_check
word_is r xs l e =
    ap link_check
    (fill_by_all (λ i. link_byte r (8 + i)) (take 6 (drop 8 xs)) 6 0 (simp (length-take, length-drop) (omega arith))
    (λ i h. get_or-take 6 (drop 8 xs) i 0 h ∙ get_or-drop 8 xs i 0 ∙ e (8 + i) (omega arith) (omega arith)))

-- the frame of a reply has the form, and names the reply
module _ (r : Reply) where
  pub reply_long : length (reply_frame r).bytes ≡ 128
  unfolding reply_frame
  reply_long = framed_long Link 128 (link_byte r)

  pub reply_marks_long : length (reply_frame r).marks ≡ 8
  unfolding reply_frame
  reply_marks_long = framed_marks_long Link 128 (link_byte r)

  pub reply_byte : (k : ℕ) → k < 128 → byte_at (reply_frame r) k ≡ link_byte r k
  unfolding reply_frame
  reply_byte k h = framed_byte Link 128 (link_byte r) k h

  reply_mark : (c : ℕ) → c < 8 → get_or (reply_frame r).marks c Zero ≡ Control
  unfolding reply_frame
  reply_mark c h = framed_mark Link 128 (link_byte r) c h

  pub reply_named : reply_of (reply_frame r) ≡ r
  reply_named =
      ap₂ {C = Reply} (λ k i. record { kind = k; id = i })
      (ap (λ b. cond (eqb b 0x80) Nak Ack) (reply_byte 9 (lit< tt) ∙ byte_kind r) ∙ kind_back r.kind)
      (reply_byte 10 (lit< tt) ∙ byte_id r)

  pub reply_form : LinkForm (reply_frame r)
  reply_form = record {
    one = reply_long;
    marks = λ c h. ap mark_number (reply_mark c (subst (λ n. c < n) reply_marks_long h));
    bytes = λ k h. ap (link_allows k) (reply_byte k h) ∙ allowed_made r k;
    low = reply_byte 14 (lit< tt) ∙ byte_low r ∙ ap (λ s. reply_check s % 256) (sym reply_named);
    high = reply_byte 15 (lit< tt) ∙ byte_high r ∙ ap (λ s. reply_check s / 256) (sym reply_named);
  }

-- every other place has one value
allowed_there : (r : Reply) (k b : ℕ) → link_allows k b ≡ true
    → (k ≡ 9 → b ≡ kind_byte r.kind) → (k ≡ 10 → b ≡ r.id) → (k ≡ 14 → b ≡ reply_check r % 256) → (k ≡ 15 → b ≡ reply_check r / 256)
    → b ≡ link_byte r k
unfolding link_allows link_byte
allowed_there r k b e kind id low high = grind (arith, nat_tests)

-- where the fixed bytes are right, the check of the frame's own bytes is that of the reply that it names
pub word_of : (f : FrameM) → length f.bytes ≡ 128 → ((k : ℕ) → k < 128 → link_allows k (byte_at f k) ≡ true) → word_check f ≡ reply_check (reply_of f)
word_of f one allowed =
    word_is (reply_of f) f.bytes one
    (λ k l h. allowed_there (reply_of f) k (byte_at f k) (allowed k (omega arith))
    (λ e. ap (byte_at f) e ∙ kind_there (byte_at f 9) (allowed 9 (lit< tt)))
    (λ e. ap (byte_at f) e) (λ e. absurd (omega arith)) (λ e. absurd (omega arith)))

-- a frame of the form is the frame of the reply that it names
module _ (f : FrameM) (groups : ℕ) (g : Grouped f groups) (form : LinkForm f) where
  pub form_reply : f ≡ reply_frame (reply_of f)
  unfolding reply_frame
  form_reply =
      let eight : length f.marks ≡ 8 = omega (arith, g.marks_long, g.bytes_long, form.one) in
      is_framed Link 128 (link_byte (reply_of f)) f form.one eight
      (λ k h. allowed_there (reply_of f) k (byte_at f k) (form.bytes k h)
      (λ e. ap (byte_at f) e ∙ kind_there (byte_at f 9) (form.bytes 9 (lit< tt)))
      (λ e. ap (byte_at f) e)
      (λ e. ap (byte_at f) e ∙ form.low)
      (λ e. ap (byte_at f) e ∙ form.high))
      (λ c h. same_mark (get_or f.marks c Zero) Control (form.marks c (omega arith)))
