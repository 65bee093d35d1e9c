-- A protocol frame by its facts: its marks, its fixed bytes and its checks.
use Rattle.std.proofs.Common.{◌≡◌, ℕ, ◌+◌, ◌-◌, ◌*◌, ◌/◌, ◌%◌, ◌<◌, ◌≤◌, true, false, cond, eqb, List, length, get_or, set, sym, refl, ap, ◌∙◌, ap₂, inl, inr, arith}
use Rattle.std.proofs.lemmas.List.{length-set, get_or-set_same, get_or-set_other}
use Rattle.std.proofs.lemmas.Bool.{cases_lt, cases_eq, eqb-true, eq-eqb, le-leb, leb-true, and_parts, and_from}
use Rattle.std.proofs.lemmas.Bool.Decides.{nat_tests}
use Rattle.frame.specs.Units.{unit_check}
use Rattle.frame.specs.Form.{form_mark, protocol_allows, protocol_byte, sealed}
use Rattle.frame.specs.Frame.{FrameM, Grouped, byte_at, mark_at}
use Rattle.terms.specs.Mark.{mark_number}
use Rattle.frame.specs.Packet.{one_of_five, IsPacket}
use Rattle.frame.specs.Reserved.{reserved, cleared}
use Rattle.frame.specs.declared.frame.Kind.TheVariants.{Protocol}
use Rattle.terms.specs.declared.mark.Mark.{Mark}
use Rattle.terms.specs.declared.mark.Mark.TheVariants.{Zero, Data, Control, Three}
use Rattle.frame.proofs.Counts.{units_same}
use Rattle.frame.proofs.Placed.{cleared_long, cleared_free, cleared_same, cleared_twice, framed_long, framed_marks_long, framed_byte, framed_mark, is_framed}

pub record ProtocolForm (f : FrameM) : Type 0 where
  pub marks : (c : ℕ) → c < length f.marks → mark_at f c ≡ mark_number (form_mark Protocol (length f.marks) c)
  pub bytes : (k : ℕ) → k < length f.bytes → protocol_allows (length f.bytes) k (byte_at f k) ≡ true
  pub units : (j : ℕ) → j < 8 → byte_at f (length f.bytes - 14 + j) ≡ unit_check f.bytes j

-- what the five lengths are
pub record Sized (n : ℕ) : Type 0 where
  pub whole : n % 128 ≡ 0
  pub some : 128 ≤ n
  pub few : n ≤ 640

pub sized : (n : ℕ) → one_of_five n ≡ true → Sized n
sized n e =
    let p = and_parts _ _ e in
    let q = and_parts _ _ p.0 in
    record { whole = eqb-true (n % 128) 0 q.0; some = leb-true 128 n q.1; few = leb-true n 640 p.1 }

pub one_of_five_is : (n : ℕ) → Sized n → one_of_five n ≡ true
one_of_five_is n s = and_from _ _ (and_from _ _ (eq-eqb (n % 128) 0 s.whole) (le-leb 128 n s.some)) (le-leb n 640 s.few)

unmark : ℕ → Mark
unmark n = cond (eqb n 0) Zero (cond (eqb n 1) Data (cond (eqb n 2) Control Three))

unmarked : (m : Mark) → unmark (mark_number m) ≡ m
unfolding unmark
unmarked Zero = refl
unmarked Data = refl
unmarked Control = refl
unmarked Three = refl

-- marks with the same number are the same
pub same_mark : (m n : Mark) → mark_number m ≡ mark_number n → m ≡ n
same_mark m n e = sym (unmarked m) ∙ ap unmark e ∙ unmarked n

-- what the rules let stand where
pub allowed_start : (n b : ℕ) → protocol_allows n 0 b ≡ true → b ≡ 0xFB
unfolding protocol_allows
allowed_start n b e = eqb-true b 0xFB e

pub allowed_end : (n k b : ℕ) → 0 < k → n ≤ k + 6 → protocol_allows n k b ≡ true → b ≡ 0xFD
unfolding protocol_allows
allowed_end n k b p h e = grind (arith, nat_tests)

allowed_made : (id : ℕ) (p : List ℕ) (k : ℕ) → 128 ≤ length p → k < length p → protocol_allows (length p) k (protocol_byte id p k) ≡ true
unfolding protocol_allows protocol_byte
allowed_made id p k s h = grind (arith, nat_tests)

pub byte_start : (id : ℕ) (p : List ℕ) → protocol_byte id p 0 ≡ 0xFB
unfolding protocol_byte
byte_start id p = refl

pub id_there : (id : ℕ) (p : List ℕ) → protocol_byte id p 1 ≡ id
unfolding protocol_byte
id_there id p = refl

pub byte_free : (id : ℕ) (p : List ℕ) (k : ℕ) → 1 < k → k + 14 < length p → protocol_byte id p k ≡ get_or p k 0
unfolding protocol_byte
byte_free id p k h l = grind (arith, nat_tests)

pub byte_unit : (id : ℕ) (p : List ℕ) (k : ℕ) → 1 < k → length p ≤ k + 14 → k + 6 < length p → protocol_byte id p k ≡ unit_check (set p 1 id) (k + 14 - length p)
unfolding protocol_byte
byte_unit id p k h l u = grind (arith, nat_tests)

pub byte_end : (id : ℕ) (p : List ℕ) (k : ℕ) → 1 < k → length p ≤ k + 6 → protocol_byte id p k ≡ 0xFD
unfolding protocol_byte
byte_end id p k h l = grind (arith, nat_tests)

free : (n k : ℕ) → 1 < k → k + 14 < n → reserved n k ≡ false
unfolding reserved
free n k h l = grind (arith, nat_tests)

freed : (n k : ℕ) → reserved n k ≡ false → (1 < k) × (k + 14 < n)
unfolding reserved
freed n k e = (grind (arith, nat_tests), grind (arith, nat_tests))

-- the frame of a packet has the form
module _ (id : ℕ) (p : List ℕ) (is : IsPacket p) where
  fits : Sized (length p)
  fits = sized (length p) is.long

  pub sealed_long : length (sealed id p).bytes ≡ length p
  unfolding sealed
  sealed_long = framed_long Protocol (length p) (protocol_byte id p)

  pub sealed_marks_long : length (sealed id p).marks ≡ length p / 16
  unfolding sealed
  sealed_marks_long = framed_marks_long Protocol (length p) (protocol_byte id p)

  pub sealed_byte : (k : ℕ) → k < length p → byte_at (sealed id p) k ≡ protocol_byte id p k
  unfolding sealed
  sealed_byte k h = framed_byte Protocol (length p) (protocol_byte id p) k h

  sealed_mark : (c : ℕ) → c < length p / 16 → get_or (sealed id p).marks c Zero ≡ form_mark Protocol (length p / 16) c
  unfolding sealed
  sealed_mark c h = framed_mark Protocol (length p) (protocol_byte id p) c h

  -- the places that count are the packet's, with the ID
  counted_bytes : (i : ℕ) → 0 < i → i + 14 < length p → byte_at (sealed id p) i ≡ get_or (set p 1 id) i 0
  counted_bytes i h l =
      sealed_byte i (omega arith)
      ∙ elim (cases_eq i 1) [
        | inl e ↦ ap (protocol_byte id p) e ∙ id_there id p ∙ sym (get_or-set_same p 1 id 0 (omega arith)) ∙ ap (λ k. get_or (set p 1 id) k 0) (sym e)
        | inr ne ↦ byte_free id p i (omega arith) l ∙ sym (get_or-set_other p 1 i id 0 ne)
      ]

  sealed_units : (j : ℕ) → unit_check (sealed id p).bytes j ≡ unit_check (set p 1 id) j
  sealed_units j =
      let s = fits in
      units_same (sealed id p).bytes (set p 1 id) (sealed_long ∙ sym (length-set p 1 id))
      (simp length-set (omega arith)) (λ i h l. counted_bytes i h (simp length-set at l)) j

  pub sealed_form : ProtocolForm (sealed id p)
  sealed_form =
      let s = fits in
      let bl = sealed_long in
      let ml = sealed_marks_long in
      record {
        marks = λ c h. ap mark_number (sealed_mark c (omega arith) ∙ ap (λ m. form_mark Protocol m c) (sym ml));
        bytes = λ k h. ap₂ (λ m b. protocol_allows m k b) bl (sealed_byte k (omega arith)) ∙ allowed_made id p k s.some (omega arith);
        units = λ j h.
            ap (λ m. byte_at (sealed id p) (m - 14 + j)) bl
            ∙ sealed_byte (length p - 14 + j) (omega arith)
            ∙ byte_unit id p (length p - 14 + j) (omega arith) (omega arith) (omega arith)
            ∙ ap (unit_check (set p 1 id)) (let z : length p - 14 + j + 14 - length p ≡ j = omega arith in z)
            ∙ sym (sealed_units j);
      }

  -- and gives the packet back
  pub sealed_cleared : cleared (sealed id p).bytes ≡ p
  sealed_cleared =
      cleared_same (sealed id p).bytes p sealed_long
      (λ k h r. let u = freed (length p) k r in sealed_byte k h ∙ byte_free id p k u.0 u.1)
      ∙ is.clear

-- a frame of the form is the frame of a packet
module _ (f : FrameM) (groups : ℕ) (g : Grouped f groups) (form : ProtocolForm f) where
  abbrev held : List ℕ
  held = cleared f.bytes

  held_long : length (cleared f.bytes) ≡ 128 * groups
  held_long = cleared_long f.bytes ∙ g.bytes_long

  pub form_packet : IsPacket (cleared f.bytes)
  form_packet =
      let l = held_long in
      record {
        long = one_of_five_is (length (cleared f.bytes)) (record { whole = omega (arith, g.some); some = omega (arith, g.some); few = omega (arith, g.few) });
        clear = cleared_twice f.bytes;
      }

  form_counted : (i : ℕ) → 0 < i → i + 14 < length f.bytes → get_or (set held 1 (byte_at f 1)) i 0 ≡ byte_at f i
  form_counted i h l =
      let hl = held_long in
      elim (cases_eq i 1) [
        | inl e ↦ ap (λ k. get_or (set held 1 (byte_at f 1)) k 0) e ∙ get_or-set_same held 1 (byte_at f 1) 0 (omega (arith, g.some)) ∙ ap (byte_at f) (sym e)
        | inr ne ↦ get_or-set_other held 1 i (byte_at f 1) 0 ne ∙ cleared_free f.bytes i (omega arith) (free (length f.bytes) i (omega arith) l)
      ]

  form_units : (j : ℕ) → unit_check (set held 1 (byte_at f 1)) j ≡ unit_check f.bytes j
  form_units j = units_same (set held 1 (byte_at f 1)) f.bytes (length-set held 1 (byte_at f 1) ∙ cleared_long f.bytes) (omega (arith, g.some, g.bytes_long)) form_counted j

  form_byte : (k : ℕ) → k < length f.bytes → byte_at f k ≡ protocol_byte (byte_at f 1) held k
  form_byte k h =
      let cl = cleared_long f.bytes in
      let bl = g.bytes_long in
      let gs = g.some in
      elim (cases_lt k 2) [
        | inl low ↦ elim (cases_eq k 0) [
          | inl e ↦ ap (byte_at f) e ∙ allowed_start (length f.bytes) (byte_at f 0) (form.bytes 0 (omega arith)) ∙ sym (byte_start (byte_at f 1) held) ∙ ap (protocol_byte (byte_at f 1) held) (sym e)
          | inr ne ↦ let e : k ≡ 1 = omega arith in ap (byte_at f) e ∙ sym (id_there (byte_at f 1) held) ∙ ap (protocol_byte (byte_at f 1) held) (sym e)
        ]
        | inr high ↦ elim (cases_lt (k + 14) (length f.bytes)) [
          | inl mid ↦ sym (byte_free (byte_at f 1) held k (omega arith) (omega arith) ∙ cleared_free f.bytes k h (free (length f.bytes) k (omega arith) mid))
          | inr late ↦ elim (cases_lt (k + 6) (length f.bytes)) [
            | inl unit ↦
                let at : length f.bytes - 14 + (k + 14 - length f.bytes) ≡ k = omega arith in
                let lt : k + 14 - length f.bytes < 8 = omega arith in
                ap (byte_at f) (sym at) ∙ form.units (k + 14 - length f.bytes) lt
                ∙ sym (byte_unit (byte_at f 1) held k (omega arith) (omega arith) (omega arith)
                ∙ ap (λ m. unit_check (set held 1 (byte_at f 1)) (k + 14 - m)) cl ∙ form_units (k + 14 - length f.bytes))
            | inr end ↦ allowed_end (length f.bytes) k (byte_at f k) (omega arith) end (form.bytes k h) ∙ sym (byte_end (byte_at f 1) held k (omega arith) (omega arith))
          ]
        ]
      ]

  pub form_sealed : f ≡ sealed (byte_at f 1) (cleared f.bytes)
  unfolding sealed
  form_sealed =
      let hl = held_long in
      let bl = g.bytes_long in
      let ml = g.marks_long in
      let sixteenth : length held / 16 ≡ length f.marks = omega arith in
      is_framed Protocol (length held) (protocol_byte (byte_at f 1) held) f (omega arith) (omega arith)
      (λ k h. form_byte k (omega arith))
      (λ c h. same_mark (get_or f.marks c Zero) (form_mark Protocol (length held / 16) c) (form.marks c (omega arith) ∙ ap (λ m. mark_number (form_mark Protocol m c)) (sym sixteenth)))
