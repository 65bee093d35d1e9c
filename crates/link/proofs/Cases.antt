-- The cases of each rule: what holds of every outcome that a call can have holds of its outcome.
use Rattle.std.proofs.Common.{◌≡◌, ℕ, ◌<◌, ◌≤◌, Bool, true, false, cond, eqb, ltb, leb, List, [], ◌++◌, length, drop, Some, None, Ok, Err, Option, Result, sym, refl, subst, arith}
use Rattle.std.proofs.lemmas.Bool.{leb-false, ltb-true, ltb-false, eqb-true}
use Rattle.terms.specs.Fault.{packet_refusal, frame_refusal, host_refusal}
use Rattle.terms.specs.declared.content.Content.{Content}
use Rattle.terms.specs.declared.content.Content.TheVariants as content
use Rattle.terms.specs.declared.fault.FrameFault.{FrameFault}
use Rattle.terms.specs.declared.fault.FrameFault.TheVariants as frame
use Rattle.terms.specs.declared.fault.PacketFault.{PacketFault}
use Rattle.terms.specs.declared.fault.PacketFault.TheVariants as packet
use Rattle.terms.specs.declared.fault.Refusal.{Refusal}
use Rattle.terms.specs.declared.reply.Reply.{Reply}
use Rattle.frame.specs.Form.{kind_of, reply_frame}
use Rattle.frame.specs.Frame.{FrameM}
use Rattle.frame.specs.Packet.{IsPacket, packet_fault, one_of_five, lowest_reserved, reserved_fault}
use Rattle.frame.specs.Reading.{reading}
use Rattle.frame.specs.Reserved.{cleared}
use Rattle.frame.specs.declared.frame.Kind.{Kind}
use Rattle.frame.specs.declared.frame.Kind.TheVariants.{Protocol, Link}
use Rattle.frame.proofs.Copies.{clear_is}
use Rattle.carrier.specs.Carrying.{groups_of, Added}
use Rattle.carrier.specs.Fault.{carrier_refusal}
use Rattle.carrier.specs.declared.fault.CarrierFault.TheVariants.{Full}
use Rattle.link.specs.End.{distance, hold, rewind, accept, release, rewind_on}
use Rattle.link.specs.Outcome
use Rattle.link.specs.Rules

-- a test
pub by_test : {X : Type 0} (P : X → Type 0) (b : Bool) (x y : X) → (b ≡ true → P x) → (b ≡ false → P y) → P (cond b x y)
by_test P true x y yes_x no_y = yes_x refl
by_test P false x y yes_x no_y = no_y refl

-- bytes without a fault are a packet
unreserved : (xs : List ℕ) (o : Option ℕ) → lowest_reserved xs ≡ o → reserved_fault o ≡ None → cleared xs ≡ xs
unreserved xs None e h = clear_is xs (sym e)
unreserved xs (Some k) e h = cc

pub no_fault : (xs : List ℕ) → packet_fault xs ≡ None → IsPacket xs
no_fault xs =
    by_test (λ o. o ≡ None → IsPacket xs) (one_of_five (length xs)) (reserved_fault (lowest_reserved xs)) (Some packet.Length)
    (λ long e. record { long = long; clear = unreserved xs (lowest_reserved xs) refl e })
    (λ _ e. record { long = cc; clear = cc })

-- a refusal with another number than 12
abbrev Other : Refusal → Type 0
Other r = r.number ≡ 12 → ⊥

packet_other : (f : PacketFault) → Other (packet_refusal f)
packet_other packet.Length = omega arith
packet_other (packet.Reserved k) = omega arith

frame_other : (f : FrameFault) → Other (frame_refusal f)
frame_other (frame.Sync c) = omega arith
frame_other (frame.Form k) = omega arith
frame_other (frame.Check k) = omega arith

module _ (s : Outcome.Local) (P : Outcome.Outcome → Type 0) where
  module _ (p : List ℕ)
      (refuses : (r : Refusal) → Other r → P (Outcome.refuses s r []))
      (takes : IsPacket p → length s.end.held < 16 → P (Outcome.becomes s (hold p s.end) (Outcome.taken s.end.next) [])) where
    by_fault : (o : Option PacketFault) → packet_fault p ≡ o → P (Rules.offering_unless o s p)
    by_fault (Some f) e = refuses (packet_refusal f) (packet_other f)
    by_fault None e = by_test P (leb 16 (length s.end.held)) _ _
        (λ _. refuses (Outcome.by_end 3 0) (omega arith))
        (λ few. takes (no_fault p e) (leb-false 16 (length s.end.held) few))

    pub offer_cases : P (Rules.offering s p)
    offer_cases = by_fault (packet_fault p) refl

  pub late_cases : P (Outcome.refuses s (Outcome.by_end 13 0) []) → P (Outcome.becomes s (rewind s.end) Outcome.rewound []) → P (Rules.rewinding s)
  late_cases refuses rewinds = by_test P (eqb s.end.sent 0) _ _ (λ _. refuses) (λ _. rewinds)

  -- what is put, and what then waits
  module _ (full : List FrameM → ℕ → Bool)
      (refuses : (r : Refusal) → Other r → P (Outcome.refuses s r []))
      (replies : (r : Reply) → s.end.waiting ≡ Some r → (out : List FrameM) → Added s.out (reply_frame r) out → P (Rules.once_put s (Rules.reply_out r s.end) out))
      (sends : s.end.cursor < length s.end.held → (out : List FrameM) → Added s.out (Rules.packet_out s.end).frame out → P (Rules.once_put s (Rules.packet_out s.end) out))
      (o : Outcome.Outcome) where
    by_room : (b : Bool) (w : Rules.Sending) → ((out : List FrameM) → Added s.out w.frame out → P (Rules.once_put s w out)) → Rules.SentUnless b s w o → P o
    by_room true w puts is = subst P (sym is) (refuses (carrier_refusal Full) (omega arith))
    by_room false w puts d = subst P (sym d.is) (puts d.out d.added)

    by_waiting : (r : Option Reply) → s.end.waiting ≡ r → Rules.DispatchesAs full s (Rules.sending_after r s.end) o → P o
    by_waiting (Some r) e = by_room (full s.out (groups_of (reply_frame r))) _ (replies r e)
    by_waiting None e = by_test (λ w. Rules.DispatchesAs full s w o → P o) (ltb s.end.cursor (length s.end.held)) _ _
        (λ more. by_room (full s.out _) _ (sends (ltb-true s.end.cursor (length s.end.held) more)))
        (λ _ is. subst P (sym is) (refuses (Outcome.by_end 4 0) (omega arith)))

    pub dispatch_cases : Rules.Dispatches full s o → P o
    dispatch_cases = by_waiting s.end.waiting refl

  -- a frame that was taken
  module _ (f : FrameM) (buffer : List ℕ)
      (hands : (n : ℕ) → reading f ≡ Ok (content.Packet s.end.expected n) → n ≤ length buffer → P (Outcome.becomes s (accept s.end) (Outcome.handed_up s.end.expected n) (cleared f.bytes ++ drop n buffer)))
      (drops : (r : Refusal) → Other r → P (Outcome.drops s r buffer))
      (ignores : (r : Refusal) → Other r → P (Outcome.refuses s r buffer))
      (heeds : (r : Reply) → reading f ≡ Ok (content.Reply r) → distance s.end r.id ≤ s.end.sent → P (Outcome.becomes s (rewind_on r.kind (release (distance s.end r.id) s.end)) (Outcome.released (distance s.end r.id)) buffer))
      (unknown : (r : Reply) → reading f ≡ Ok (content.Reply r) → s.end.sent < distance s.end r.id → P (Outcome.refuses s (Outcome.by_end 12 r.id) buffer)) where
    by_kind : (k : Kind) (fault : FrameFault) → P (Rules.arriving_broken s k fault buffer)
    by_kind Protocol fault = drops (frame_refusal fault) (frame_other fault)
    by_kind Link fault = ignores (frame_refusal fault) (frame_other fault)

    by_size : (id n : ℕ) → reading f ≡ Ok (content.Packet id n) → id ≡ s.end.expected → P (cond (ltb (length buffer) n) (Outcome.drops s (host_refusal (record { needed = n })) buffer) (Outcome.becomes s (accept s.end) (Outcome.handed_up id n) (cleared f.bytes ++ drop n buffer)))
    by_size id n e same = by_test P (ltb (length buffer) n) _ _
        (λ _. drops (host_refusal (record { needed = n })) (omega arith))
        (λ fits. subst (λ i. P (Outcome.becomes s (accept s.end) (Outcome.handed_up i n) (cleared f.bytes ++ drop n buffer))) (sym same) (hands n (rw same at e) (ltb-false (length buffer) n fits)))

    by_reading : (r : Result Content FrameFault) → reading f ≡ r → P (Rules.arriving_read r s f buffer)
    by_reading (Ok (content.Packet id n)) e = by_test P (eqb id s.end.expected) _ _
        (λ same. by_size id n e (eqb-true id s.end.expected same))
        (λ _. drops (Outcome.by_end 10 id) (omega arith))
    by_reading (Ok (content.Reply r)) e = by_test P (ltb s.end.sent (distance s.end r.id)) _ _
        (λ above. unknown r e (ltb-true s.end.sent (distance s.end r.id) above))
        (λ known. heeds r e (ltb-false s.end.sent (distance s.end r.id) known))
    by_reading (Err fault) e = by_kind (kind_of f) fault

    pub frame_cases : P (Rules.arriving_read (reading f) s f buffer)
    frame_cases = by_reading (reading f) refl
