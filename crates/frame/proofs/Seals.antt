-- The bytes that sealing writes are the protocol frame's.
use Rattle.std.proofs.Common.{◌≡◌, ℕ, ◌+◌, ◌-◌, ◌/◌, ◌<◌, ◌≤◌, List, ◌++◌, map, length, get_or, take, drop, replicate, set, sym, ap, ◌∙◌, ap₂, inl, inr, length-append, arith}
use Rattle.std.proofs.lemmas.List.{get_or_append_left, get_or-append_right, get_or-set_same, get_or-set_other, get_or-take, get_or-replicate, length-replicate, length-set, length-take-le}
use Rattle.std.proofs.lemmas.Bool.{cases_lt, cases_eq}
use Rattle.std.specs.List.{range_with_len}
use Rattle.std.proofs.lemmas.List.FromFn.{fill_by_all, length-map-range_with_len, get_or-map-range_with_len}
use Rattle.frame.specs.Units.{unit_check}
use Rattle.frame.specs.Form.{form_mark, protocol_byte, sealed}
use Rattle.frame.specs.Frame.{Grouped}
use Rattle.frame.specs.Room.{in_room, front, FrameRoom}
use Rattle.frame.specs.declared.frame.Kind.TheVariants.{Protocol}
use Rattle.frame.specs.Packet.{IsPacket}
use Rattle.frame.proofs.Protocols.{sized, sealed_long, sealed_marks_long, byte_start, id_there, byte_free, byte_unit, byte_end}
use Rattle.frame.proofs.Views.{made_front, made_blank, made, made_room}
use Rattle.terms.specs.declared.mark.Mark.{Mark}
use Rattle.terms.specs.declared.mark.Mark.TheVariants.{Zero}

module _ (id : ℕ) (p : List ℕ) (is : IsPacket p) where
  -- the packet's bytes with the ID and the start, then the checks and the end
  abbrev lead : List ℕ
  lead = take (length p - 14) (set (set p 1 id) 0 0xFB)

  abbrev checks : List ℕ
  checks = map (unit_check (set p 1 id)) (range_with_len 0 8)

  abbrev pub final : List ℕ
  final = lead ++ checks ++ replicate 6 0xFD

  lead_long : length lead ≡ length p - 14
  lead_long = length-take-le (length p - 14) (set (set p 1 id) 0 0xFB) (omega (arith, length-set (set p 1 id) 0 0xFB, length-set p 1 id))

  checks_long : length checks ≡ 8
  checks_long = length-map-range_with_len (unit_check (set p 1 id)) 0 8

  both_long : length (lead ++ checks) ≡ length p - 14 + 8
  both_long = length-append lead checks ∙ omega (arith, lead_long, checks_long)

  pub final_long : length final ≡ length p
  final_long =
      let s = (sized (length p) is.long).some in
      length-append (lead ++ checks) (replicate 6 0xFD) ∙ omega (arith, both_long, length-replicate {A = ℕ} 6 0xFD)

  low_byte : (k : ℕ) → k + 14 < length p → get_or final k 0 ≡ protocol_byte id p k
  low_byte k h =
      let s = (sized (length p) is.long).some in
      get_or_append_left (lead ++ checks) (replicate 6 0xFD) 0 k (omega (arith, both_long))
      ∙ get_or_append_left lead checks 0 k (omega (arith, lead_long))
      ∙ get_or-take (length p - 14) (set (set p 1 id) 0 0xFB) k 0 (omega arith)
      ∙ elim (cases_eq k 0) [
        | inl z ↦
            ap (λ i. get_or (set (set p 1 id) 0 0xFB) i 0) z
            ∙ get_or-set_same (set p 1 id) 0 0xFB 0 (simp length-set (omega arith))
            ∙ sym (byte_start id p) ∙ ap (protocol_byte id p) (sym z)
        | inr nz ↦
            get_or-set_other (set p 1 id) 0 k 0xFB 0 nz
            ∙ elim (cases_eq k 1) [
              | inl o ↦ ap (λ i. get_or (set p 1 id) i 0) o ∙ get_or-set_same p 1 id 0 (omega arith) ∙ sym (id_there id p) ∙ ap (protocol_byte id p) (sym o)
              | inr no' ↦ get_or-set_other p 1 k id 0 no' ∙ sym (byte_free id p k (omega arith) h)
            ]
      ]

  unit_byte : (k : ℕ) → length p ≤ k + 14 → k + 6 < length p → get_or final k 0 ≡ protocol_byte id p k
  unit_byte k l h =
      let s = (sized (length p) is.long).some in
      let j : ℕ = k - (length p - 14) in
      get_or_append_left (lead ++ checks) (replicate 6 0xFD) 0 k (omega (arith, both_long))
      ∙ get_or-append_right lead checks (length p - 14) k 0 lead_long (omega arith)
      ∙ get_or-map-range_with_len (unit_check (set p 1 id)) 0 8 j j 0 (omega arith) (omega arith)
      ∙ ap (unit_check (set p 1 id)) (let z : j ≡ k + 14 - length p = omega arith in z)
      ∙ sym (byte_unit id p k (omega arith) l h)

  end_byte : (k : ℕ) → length p ≤ k + 6 → k < length p → get_or final k 0 ≡ protocol_byte id p k
  end_byte k l h =
      let s = (sized (length p) is.long).some in
      get_or-append_right (lead ++ checks) (replicate 6 0xFD) (length p - 14 + 8) k 0 both_long (omega arith)
      ∙ get_or-replicate 6 (k - (length p - 14 + 8)) 0xFD 0 (omega arith)
      ∙ sym (byte_end id p k (omega arith) l)

  pub final_is : final ≡ map (protocol_byte id p) (range_with_len 0 (length p))
  final_is =
      fill_by_all (protocol_byte id p) final (length p) 0 final_long
      (λ k h. elim (cases_lt (k + 14) (length p)) [
        | inl low ↦ low_byte k low
        | inr late ↦ elim (cases_lt (k + 6) (length p)) [ inl unit ↦ unit_byte k late unit | inr end ↦ end_byte k end h ]
      ])

  module _ (body again room checked trailed : List ℕ) (marks : List Mark) (body_is : body ≡ p) (again_is : again ≡ p) (room_is : room ≡ in_room 640 0 again)
      (checked_is : checked ≡ map (unit_check (set (take (length body) room) 1 id)) (range_with_len 0 8))
      (trailed_is : trailed ≡ take (length (set (set (take (length body) room) 1 id) 0 0xFB) - 14) (set (set (take (length body) room) 1 id) 0 0xFB) ++ checked ++ replicate 6 0xFD)
      (marks_are : marks ≡ in_room 40 Zero (map (form_mark Protocol (length body / 16)) (range_with_len 0 (length body / 16)))) where
    front_is : take (length body) room ≡ p
    front_is =
        let few = (sized (length p) is.long).few in
        made_front 640 0 (length body) again room room_is (ap length (again_is ∙ sym body_is)) (omega (arith, ap length body_is)) ∙ again_is

    trailed_final : trailed ≡ final
    trailed_final =
        trailed_is
        ∙ ap (λ cs. take (length (set (set (take (length body) room) 1 id) 0 0xFB) - 14) (set (set (take (length body) room) 1 id) 0 0xFB) ++ cs ++ replicate 6 0xFD) checked_is
        ∙ ap (λ (xs : List ℕ). take (length (set (set xs 1 id) 0 0xFB) - 14) (set (set xs 1 id) 0 0xFB) ++ map (unit_check (set xs 1 id)) (range_with_len 0 8) ++ replicate 6 0xFD) front_is
        ∙ ap (λ n. take (n - 14) (set (set p 1 id) 0 0xFB) ++ checks ++ replicate 6 0xFD) (length-set (set p 1 id) 0 0xFB ∙ length-set p 1 id)

    -- the room that sealing leaves
    written : trailed ++ drop (length body) room ≡ in_room 640 0 (sealed id p).bytes
    unfolding sealed
    written =
        let few = (sized (length p) is.long).few in
        let long = ap length (again_is ∙ sym body_is) in
        ap₂ (λ (xs rest : List ℕ). xs ++ rest) (trailed_final ∙ final_is)
        ((made_blank 640 0 (length body) again room room_is long (omega (arith, ap length body_is))).rest
        ∙ ap (λ n. replicate (640 - n) 0) (ap length body_is ∙ sym (length-map-range_with_len (protocol_byte id p) 0 (length p))))

    marked : marks ≡ in_room 40 Zero (sealed id p).marks
    unfolding sealed
    marked = marks_are ∙ ap (λ n. in_room 40 Zero (map (form_mark Protocol (n / 16)) (range_with_len 0 (n / 16)))) (ap length body_is)

    grouped : Grouped (sealed id p) (length body / 128)
    grouped =
        let s = sized (length p) is.long in
        let n = ap length body_is in
        record {
          some = omega (arith, n, s.some);
          few = omega (arith, n, s.few);
          bytes_long = sealed_long id p is ∙ omega (arith, n, s.whole);
          marks_long = sealed_marks_long id p is ∙ omega (arith, n, s.whole);
        }

    pub sealed_room : FrameRoom (length body / 128) (trailed ++ drop (length body) room) marks
    sealed_room = made_room (length body / 128) (sealed id p).bytes _ (sealed id p).marks marks written marked grouped

    pub sealed_made : front (length body / 128) (trailed ++ drop (length body) room) marks ≡ sealed id p
    sealed_made = made (length body / 128) (sealed id p).bytes _ (sealed id p).marks marks written marked grouped
