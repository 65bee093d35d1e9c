use Rattle.std.proofs.Common.{◌≡◌, ℕ, ◌+◌, ◌-◌, ◌*◌, ◌/◌, ◌%◌, ◌≤◌, Bool, true, false, cond, eqb, List, length, get_or, take, drop, Ok, Err, sym, ap, ◌∙◌, subst, arith}
use Rattle.std.proofs.lemmas.Bool.{eq-eqb, ne_eqb}
use Rattle.std.proofs.lemmas.List.{take-take, drop-take}
use Rattle.frame.specs.Form.{reply_check}
use Rattle.frame.specs.Frame.{FrameM, Grouped, byte_at}
use Rattle.frame.specs.Reading.{form_checked, reply_of, reading_as}
use Rattle.frame.specs.Room.{front}
use Rattle.frame.specs.Word.{reply_part}
use Rattle.frame.specs.declared.frame.Kind.TheVariants.{Link}
use Rattle.frame.specs.declared.frame.link.Word.{Word}
use Rattle.frame.proofs.Readings.{link_answer, word_there, named_by, right_is, form_word}
use Rattle.frame.proofs.frame.Frame.read_link.Goals as goal
use Rattle.terms.specs.declared.content.Content.TheVariants.{Reply as ReplyContent}
use Rattle.terms.specs.declared.fault.FrameFault.TheVariants.{Check}
use Rattle.terms.specs.declared.mark.Mark.{Mark}

module _ (groups : ℕ) (bytes : List ℕ) (marks : List Mark) (f : FrameM) (view_is : front groups bytes marks ≡ f) (g : Grouped f groups) (few : groups ≤ 1) (form : Ok tt ≡ form_checked Link f) where
  one : length f.bytes ≡ 128
  one = omega (arith, g.bytes_long, g.some)

  -- the eight bytes lie in the one group
  part_is : take 8 (drop 8 bytes) ≡ reply_part (reply_of f) (byte_at f 14) (byte_at f 15)
  part_is =
      let m : ℕ = 128 * groups - 8 in
      let e : 128 * groups ≡ 8 + m = omega (arith, g.some) in
      sym (ap (λ n. take 8 (drop 8 (take n bytes))) e ∙ ap (take 8) (drop-take 8 m bytes) ∙ take-take 8 m (drop 8 bytes) (omega (arith, g.some)))
      ∙ ap (λ v. take 8 (drop 8 v.bytes)) view_is
      ∙ word_there f one form

  -- the answer, by whether the check is right
  answer : (w : Word) (b : Bool) → take 8 (drop 8 bytes) ≡ reply_part w.reply (w.check % 256) (w.check / 256) → eqb w.check (reply_check w.reply) ≡ b
      → cond b (Ok (ReplyContent w.reply)) (Err (Check 14)) ≡ reading_as Link f
  answer w b is right =
      let same = sym is ∙ part_is in
      let named = named_by w.reply (reply_of f) _ _ _ _ same in
      ap (λ r. cond b (Ok (ReplyContent r)) (Err (Check 14))) named
      ∙ link_answer f b (omega (arith, one)) form
      (right_is f w.check (ap (λ (l : List ℕ). get_or l 6 0) same) (ap (λ (l : List ℕ). get_or l 7 0) same) (form_word f one form)
      ∙ ap (λ r. eqb w.check (reply_check r)) (sym named) ∙ right)

pub unreachable-requires : goal.unreachable-requires
unreachable-requires c =
    let g = subst (λ f. Grouped f c.self.inside.groups) c.self.view_is c.self.invariant.frame in
    c.in_default.ensures _ _ _ (part_is _ _ _ _ c.self.view_is g (omega arith) c.in_ok-check_form.ensures)

pub returns-then-word-reply_check : goal.returns-then-word-reply_check
returns-then-word-reply_check c =
    let g = subst (λ f. Grouped f c.self.inside.groups) c.self.view_is c.self.invariant.frame in
    answer _ _ _ _ c.self.view_is g (omega arith) c.in_ok-check_form.ensures c.in-Some.word true c.in-Some.ensures
    (eq-eqb _ _ (c.if-word-reply_check.true ∙ c.reply_check.ensures))

pub returns-else-word-reply_check : goal.returns-else-word-reply_check
returns-else-word-reply_check c =
    let g = subst (λ f. Grouped f c.self.inside.groups) c.self.view_is c.self.invariant.frame in
    answer _ _ _ _ c.self.view_is g (omega arith) c.in_ok-check_form.ensures c.in-Some.word false c.in-Some.ensures
    (ne_eqb _ _ (λ e. c.if-word-reply_check.false (e ∙ sym c.reply_check.ensures)))
