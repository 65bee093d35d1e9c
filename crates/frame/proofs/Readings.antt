-- Reading answers Ok on just the two forms.
use Rattle.std.proofs.Common.{◌≡◌, ℕ, ◌+◌, ◌-◌, ◌*◌, ◌/◌, ◌%◌, ◌<◌, ◌≤◌, Bool, true, false, cond, ◌&&◌, ◌||◌, eqb, ltb, List, map, length, get_or, take, drop, Some, None, Ok, Err, Option, Result, sym, refl, ap, ◌∙◌, subst, ap₂, inl, inr, arith, lit<, lit≤}
use Rattle.std.specs.List.{range_with_len}
use Rattle.std.proofs.lemmas.List.FromFn.{fill_by_all}
use Rattle.std.proofs.lemmas.List.{length-take, length-drop, get_or-take, get_or-drop}
use Rattle.std.proofs.lemmas.Bool.{cases_eq, eqb-true, eq-eqb, ne_eqb, le-ltb, ltb-false, and_parts, and_from, cond_both, cond-false, and_right}
use Rattle.std.proofs.lemmas.Bool.Decides.{nat_tests}
use Rattle.frame.specs.Units.{unit_check}
use Rattle.frame.specs.Form.{kind_of, form_mark, allows, sealed, reply_frame, reply_check, link_allows}
use Rattle.frame.specs.Frame.{FrameM, Grouped, byte_at, mark_at}
use Rattle.terms.specs.Mark.{mark_number}
use Rattle.frame.specs.Packet.{IsPacket}
use Rattle.frame.specs.Reading.{refused_at, once_ok, sync_right, mark_right, byte_right, unit_right, lowest_mark, lowest_byte, lowest_unit, sync_checked, form_checked, units_checked, reply_of, word_check, link_right, reading_as, reading, Good, packet, reply, Says}
use Rattle.frame.specs.Word.{reply_part}
use Rattle.terms.specs.declared.content.Content.{Content}
use Rattle.terms.specs.declared.content.Content.TheVariants as content
use Rattle.terms.specs.declared.fault.FrameFault.{FrameFault}
use Rattle.terms.specs.declared.fault.FrameFault.TheVariants.{Form, Check}
use Rattle.frame.specs.declared.frame.Kind.{Kind}
use Rattle.frame.specs.declared.frame.Kind.TheVariants.{Protocol, Link}
use Rattle.terms.specs.declared.mark.Mark.TheVariants.{Data, Control}
use Rattle.terms.specs.Reply.{kind_byte}
use Rattle.terms.specs.declared.reply.Reply.{Reply}
use Rattle.terms.specs.declared.reply.ReplyKind.{ReplyKind}
use Rattle.terms.specs.declared.reply.ReplyKind.TheVariants.{Ack, Nak}
use Rattle.frame.proofs.Links.{LinkForm, kind_there, reply_marks_long, reply_named, reply_form, form_reply, word_of}
use Rattle.frame.proofs.Lowest.{none_wrong, all_right}
use Rattle.frame.proofs.Protocols.{ProtocolForm, sized, sealed_long, sealed_byte, sealed_form, form_packet, form_sealed, allowed_start, id_there}

-- no number is two things
clash : {X : Type 0} {A : Type 0} {E : Type 0} {x : A} {e : E} → ◌≡◌ {A = Result A E} (Err e) (Ok x) → X
clash p = absurd (let z : ◌≡◌ {A = ℕ} 0 1 = cc in omega arith)

then_ok : {A : Type 0} (r : Result (Unit {0}) FrameFault) (rest : Result A FrameFault) (x : A) → once_ok r rest ≡ Ok x → (r ≡ Ok tt) × (rest ≡ Ok x)
then_ok (Ok u) rest x e = (refl, e)
then_ok (Err f) rest x e = clash e

refused_none : (fault : ℕ → FrameFault) (o : Option ℕ) → refused_at fault o ≡ Ok tt → o ≡ None
refused_none fault None e = refl
refused_none fault (Some k) e = clash e

-- a form whose marks and bytes are right, and the other way
module _ (kind : Kind) (f : FrameM) where
  abbrev Marks : Type 0
  Marks = (c : ℕ) → c < length f.marks → mark_at f c ≡ mark_number (form_mark kind (length f.marks) c)

  abbrev Bytes : Type 0
  Bytes = (k : ℕ) → k < length f.bytes → allows kind (length f.bytes) k (byte_at f k) ≡ true

  form_right : Marks → Bytes → form_checked kind f ≡ Ok tt
  form_right marks bytes =
      rw (
        none_wrong (mark_right kind f) (length f.marks) (λ c h. eq-eqb (mark_at f c) _ (marks c h)),
        none_wrong (byte_right kind f) (length f.bytes) bytes,
      )

  right_form : form_checked kind f ≡ Ok tt → Marks × Bytes
  right_form e =
      let p = then_ok (refused_at (λ c. Form (16 * c)) (lowest_mark kind f)) (refused_at Form (lowest_byte kind f)) tt e in (
        (λ c h. eqb-true (mark_at f c) _ (all_right (mark_right kind f) (length f.marks) (refused_none (λ c. Form (16 * c)) (lowest_mark kind f) p.0) c h)),
        all_right (byte_right kind f) (length f.bytes) (refused_none Form (lowest_byte kind f) p.1),
      )

known : (kind : Kind) (n c : ℕ) → (eqb (mark_number (form_mark kind n c)) 1 || eqb (mark_number (form_mark kind n c)) 2) ≡ true
known Link n c = refl
known Protocol n c = cond_both (eqb c 0 || eqb (c + 1) n) Control Data (λ m. (eqb (mark_number m) 1 || eqb (mark_number m) 2) ≡ true) (λ _. refl) (λ _. refl)

marks_sync : (kind : Kind) (f : FrameM) → Marks kind f → sync_checked f ≡ Ok tt
marks_sync kind f marks =
    rw (none_wrong (sync_right f) (length f.marks) (λ c h. ap (λ m. eqb m 1 || eqb m 2) (marks c h) ∙ known kind (length f.marks) c))

units_right : (f : FrameM) → ((j : ℕ) → j < 8 → byte_at f (length f.bytes - 14 + j) ≡ unit_check f.bytes j) → units_checked f ≡ Ok tt
units_right f units =
    rw (none_wrong (unit_right f) 8 (λ j h. eq-eqb (byte_at f (length f.bytes - 14 + j)) _ (units j h)))

right_units : (f : FrameM) → units_checked f ≡ Ok tt → (j : ℕ) → j < 8 → byte_at f (length f.bytes - 14 + j) ≡ unit_check f.bytes j
right_units f e j h =
    eqb-true (byte_at f (length f.bytes - 14 + j)) _ (all_right (unit_right f) 8 (refused_none (λ j. Check (length f.bytes - 14 + j)) (lowest_unit f) e) j h)

kind_is_protocol : (f : FrameM) → byte_at f 0 ≡ 0xFB → kind_of f ≡ Protocol
kind_is_protocol f e = cond-false (eqb (mark_at f 0) 2 && eqb (byte_at f 0) 0x5C) Link Protocol (and_right _ _ (ne_eqb (byte_at f 0) 0x5C (λ z. omega (arith, z, e))))

-- reading a frame of the protocol form
pub reads_protocol : (f : FrameM) → 0 < length f.bytes → ProtocolForm f → reading f ≡ Ok (content.Packet (byte_at f 1) (length f.bytes))
unfolding reading
reads_protocol f some form =
    let start : byte_at f 0 ≡ 0xFB = allowed_start (length f.bytes) (byte_at f 0) (form.bytes 0 some) in
    rw (marks_sync Protocol f form.marks, kind_is_protocol f start, form_right Protocol f form.marks form.bytes, units_right f form.units)

start_is : (b : ℕ) → link_allows 0 b ≡ true → b ≡ 0x5C
unfolding link_allows
start_is b e = eqb-true b 0x5C e

tag_is : (b : ℕ) → link_allows 8 b ≡ true → b ≡ 0xA5
unfolding link_allows
tag_is b e = eqb-true b 0xA5 e

zero_is : (k b : ℕ) → 11 ≤ k → k < 14 → link_allows k b ≡ true → b ≡ 0
unfolding link_allows
zero_is k b l h e = grind (arith, nat_tests)

-- reading a frame of the link form
pub reads_link : (f : FrameM) → 0 < length f.marks → LinkForm f → reading f ≡ Ok (content.Reply (reply_of f))
unfolding reading
reads_link f some form =
    let first : mark_at f 0 ≡ 2 = form.marks 0 some in
    let lead : byte_at f 0 ≡ 0x5C = start_is (byte_at f 0) (form.bytes 0 (lit< tt)) in
    let kind : kind_of f ≡ Link = ap₂ (λ m b. cond (eqb m 2 && eqb b 0x5C) Link Protocol) first lead in
    let short : ltb 128 (length f.bytes) ≡ false = le-ltb 128 (length f.bytes) (omega (arith, form.one)) in
    let bytes : (k : ℕ) → k < length f.bytes → link_allows k (byte_at f k) ≡ true = λ k h. form.bytes k (omega (arith, form.one)) in
    let word : reply_check (reply_of f) ≡ word_check f = sym (word_of f form.one form.bytes) in
    let right : link_right f ≡ true = and_from _ _ (eq-eqb (byte_at f 14) _ (form.low ∙ ap (λ c. c % 256) word)) (eq-eqb (byte_at f 15) _ (form.high ∙ ap (λ c. c / 256) word)) in
    rw (marks_sync Link f form.marks, kind, short, form_right Link f form.marks bytes, right)

-- what a frame has whose reading as a kind answered Ok
abbrev Held : Kind → FrameM → Content → Type 0
Held Protocol f x = ProtocolForm f × (x ≡ content.Packet (byte_at f 1) (length f.bytes))
Held Link f x = LinkForm f × (x ≡ content.Reply (reply_of f))

ok_inj : {A E : Type 0} {x y : A} → ◌≡◌ {A = Result A E} (Ok x) (Ok y) → x ≡ y
ok_inj e = cc

checked_ok : (b : Bool) (x y : Content) → cond b (Ok x) (Err (Check 14)) ≡ Ok y → (b ≡ true) × (y ≡ x)
checked_ok true x y e = (refl, sym (ok_inj e))
checked_ok false x y e = clash e

short_ok : (b : Bool) (r : Result Content FrameFault) (y : Content) → cond b (Err (Form 128)) r ≡ Ok y → (b ≡ false) × (r ≡ Ok y)
short_ok true r y e = clash e
short_ok false r y e = (refl, e)

ok_as : (kind : Kind) (f : FrameM) (groups : ℕ) → Grouped f groups → (x : Content) → reading_as kind f ≡ Ok x → Held kind f x
ok_as Protocol f groups g x e =
    let p = then_ok (form_checked Protocol f) _ x e in
    let q = then_ok (units_checked f) _ x p.1 in
    let form = right_form Protocol f p.0 in
    (record { marks = form.0; bytes = form.1; units = right_units f q.0 }, sym (ok_inj q.1))
ok_as Link f groups g x e =
    let s = short_ok (ltb 128 (length f.bytes)) _ x e in
    let p = then_ok (form_checked Link f) _ x s.1 in
    let q = checked_ok (link_right f) (content.Reply (reply_of f)) x p.1 in
    let form = right_form Link f p.0 in
    let right = and_parts (eqb (byte_at f 14) (word_check f % 256)) (eqb (byte_at f 15) (word_check f / 256)) q.0 in
    let one : length f.bytes ≡ 128 = omega (arith, ltb-false 128 (length f.bytes) s.0, g.some, g.bytes_long) in
    let allowed : (k : ℕ) → k < 128 → link_allows k (byte_at f k) ≡ true = λ k h. form.1 k (omega arith) in
    let word : word_check f ≡ reply_check (reply_of f) = word_of f one allowed in (
      record {
        one = one;
        marks = form.0;
        bytes = allowed;
        low = eqb-true (byte_at f 14) _ right.0 ∙ ap (λ c. c % 256) word;
        high = eqb-true (byte_at f 15) _ right.1 ∙ ap (λ c. c / 256) word;
      },
      q.1,
    )

held_says : (kind : Kind) (f : FrameM) (groups : ℕ) → Grouped f groups → (x : Content) → Held kind f x → Says f (Ok x)
held_says Protocol f groups g x (form, e) = subst (λ y. Says f (Ok y)) (sym e) (refl, form_packet f groups g form, form_sealed f groups g form)
held_says Link f groups g x (form, e) = subst (λ y. Says f (Ok y)) (sym e) (form_reply f groups g form)

-- a sealed packet and a reply frame read as what they were made of
pub reads_sealed : (id : ℕ) (p : List ℕ) → IsPacket p → reading (sealed id p) ≡ Ok (content.Packet id (length p))
reads_sealed id p is =
    let s = sized (length p) is.long in
    reads_protocol (sealed id p) (omega (arith, s.some, sealed_long id p is)) (sealed_form id p is)
    ∙ ap₂ (λ i n. Ok (content.Packet i n)) (sealed_byte id p is 1 (omega (arith, s.some)) ∙ id_there id p) (sealed_long id p is)

pub reads_reply : (r : Reply) → reading (reply_frame r) ≡ Ok (content.Reply r)
reads_reply r =
    reads_link (reply_frame r) (omega (arith, reply_marks_long r)) (reply_form r) ∙ ap (λ s. Ok (content.Reply s)) (reply_named r)

-- what reading a good frame answers
good_ok : (f : FrameM) → Good f → (x : Content) × (reading f ≡ Ok x)
good_ok f (packet id p is e) = (content.Packet id (length p), ap reading e ∙ reads_sealed id p is)
good_ok f (reply r e) = (content.Reply r, ap reading e ∙ reads_reply r)

-- the answer says what the frame is
pub reading_says : (f : FrameM) (groups : ℕ) → Grouped f groups → (r : Result Content FrameFault) → r ≡ reading f → Says f r
unfolding reading
reading_says f groups g (Ok x) e =
    let p = then_ok (sync_checked f) (reading_as (kind_of f) f) x (sym e) in
    held_says (kind_of f) f groups g x (ok_as (kind_of f) f groups g x p.1)
reading_says f groups g (Err fault) e = λ good. let p = good_ok f good in clash (e ∙ p.1)

pub link_answer : (f : FrameM) (b : Bool) → length f.bytes ≤ 128 → Ok tt ≡ form_checked Link f → link_right f ≡ b → cond b (Ok (content.Reply (reply_of f))) (Err (Check 14)) ≡ reading_as Link f
link_answer f b short a right =
    ap₂ (λ r s. once_ok r (cond s (Ok (content.Reply (reply_of f))) (Err (Check 14)))) a (sym right)
    ∙ sym (cond-false (ltb 128 (length f.bytes)) (Err (Form 128)) _ (le-ltb 128 (length f.bytes) short))

pub read_answer : (f : FrameM) (kind : Kind) → Ok tt ≡ sync_checked f → kind ≡ kind_of f → reading_as kind f ≡ reading f
unfolding reading
read_answer f kind a b = ap₂ (λ r k. once_ok r (reading_as k f)) a b

pub sync_answer : (f : FrameM) (e : FrameFault) → Err e ≡ sync_checked f → Err e ≡ reading f
unfolding reading
sync_answer f e a = ap (λ r. once_ok r (reading_as (kind_of f) f)) a

-- a link form's eight bytes are those of the reply that it names
pub word_there : (f : FrameM) → length f.bytes ≡ 128 → Ok tt ≡ form_checked Link f → take 8 (drop 8 f.bytes) ≡ reply_part (reply_of f) (byte_at f 14) (byte_at f 15)
word_there f one a =
    let allowed = (right_form Link f (sym a)).1 in
    let tag : byte_at f 8 ≡ 0xA5 = tag_is (byte_at f 8) (allowed 8 (omega arith)) in
    let kind : byte_at f 9 ≡ kind_byte (reply_of f).kind = kind_there (byte_at f 9) (allowed 9 (omega arith)) in
    let zero : (k : ℕ) → 11 ≤ k → k < 14 → byte_at f k ≡ 0 = λ k l h. zero_is k (byte_at f k) l h (allowed k (omega arith)) in
    let first = zero 11 (lit≤ tt) (lit< tt) in
    let second = zero 12 (lit≤ tt) (lit< tt) in
    let third = zero 13 (lit≤ tt) (lit< tt) in
    let e : take 8 (drop 8 f.bytes) ≡ map (λ i. byte_at f (8 + i)) (range_with_len 0 8) =
    fill_by_all (λ i. byte_at f (8 + i)) (take 8 (drop 8 f.bytes)) 8 0 (simp (length-take, length-drop) (omega arith)) (λ i h. get_or-take 8 (drop 8 f.bytes) i 0 h ∙ get_or-drop 8 f.bytes i 0) in
    cc

kind_from : (k m : ReplyKind) → kind_byte k ≡ kind_byte m → k ≡ m
kind_from Ack Ack e = refl
kind_from Ack Nak e = absurd (omega arith)
kind_from Nak Ack e = absurd (omega arith)
kind_from Nak Nak e = refl

-- two numbers are the same where their low bytes and the rest are
halves : (x y : ℕ) → (eqb (x % 256) (y % 256) && eqb (x / 256) (y / 256)) ≡ eqb x y
halves x y = elim (cases_eq x y) [
  | inl e ↦ and_from _ _ (eq-eqb _ _ (ap (λ n. n % 256) e)) (eq-eqb _ _ (ap (λ n. n / 256) e)) ∙ sym (eq-eqb x y e)
  | inr ne ↦ grind (arith, nat_tests)
]

-- a reply by its bytes
pub named_by : (r s : Reply) (a b c d : ℕ) → reply_part r a b ≡ reply_part s c d → r ≡ s
named_by r s a b c d e =
    ap₂ {C = Reply} (λ k i. record { kind = k; id = i })
    (kind_from r.kind s.kind (ap (λ (l : List ℕ). get_or l 1 0) e))
    (ap (λ (l : List ℕ). get_or l 2 0) e)

-- a link frame's check is right where its two bytes, low byte first, are the number of the check
pub right_is : (f : FrameM) (x : ℕ) → x % 256 ≡ byte_at f 14 → x / 256 ≡ byte_at f 15 → word_check f ≡ reply_check (reply_of f) → link_right f ≡ eqb x (reply_check (reply_of f))
right_is f x low high word =
    ap₂ (λ a b. a && b) (ap₂ eqb (sym low) (ap (λ n. n % 256) word)) (ap₂ eqb (sym high) (ap (λ n. n / 256) word))
    ∙ halves x (reply_check (reply_of f))

-- where a link form was checked, the check of the frame's own bytes is that of the reply that it names
pub form_word : (f : FrameM) → length f.bytes ≡ 128 → Ok tt ≡ form_checked Link f → word_check f ≡ reply_check (reply_of f)
form_word f one a = word_of f one (λ k h. (right_form Link f (sym a)).1 k (omega arith))
