-- What each call does to the two directions of a link.
use Rattle.std.proofs.Common.{◌≡◌, ℕ, ◌+◌, ◌%◌, ◌<◌, true, false, cond, ◌⊎◌, List, [], ◌∷◌, ◌++◌, length, get_or, take, drop, Some, None, Ok, Err, Option, Result, sym, refl, ap, ◌∙◌, subst, inl, inr, append_assoc, add-zero, arith}
use Rattle.std.proofs.lemmas.List.{append-nil}
use Rattle.std.specs.List.{flat_map}
use Rattle.terms.specs.declared.content.Content.{Content}
use Rattle.terms.specs.declared.content.Content.TheVariants as content
use Rattle.terms.specs.declared.fault.FrameFault.{FrameFault}
use Rattle.terms.specs.declared.reply.Reply.{Reply}
use Rattle.terms.specs.declared.reply.ReplyKind.{ReplyKind}
use Rattle.terms.specs.declared.reply.ReplyKind.TheVariants.{Ack, Nak}
use Rattle.frame.specs.Form.{sealed, reply_frame}
use Rattle.frame.specs.Frame.{FrameM, Grouped}
use Rattle.frame.specs.Packet.{IsPacket}
use Rattle.frame.specs.Reading.{reading, Broken, Says}
use Rattle.frame.specs.Reserved.{cleared}
use Rattle.std.proofs.lemmas.List.{take_at}
use Rattle.frame.proofs.Protocols.{sealed_cleared}
use Rattle.frame.proofs.Readings.{reads_sealed, reads_reply, reading_says}
use Rattle.carrier.proofs.Harms.{says_good}
use Rattle.carrier.specs.Carrying.{Added, whole, broken, lost}
use Rattle.link.specs.End.{EndM, cursor_id, distance, advance, clear_reply, nak, accept, object, release, rewind_on}
use Rattle.link.specs.Outcome.{Local, Outcome, number_of}
use Rattle.link.specs.Rules.{offering, rewinding, counting, Dispatches, arriving, arriving_from}
use Rattle.link.specs.Runs.{Call, offer, dispatch, late, outstanding, arrive, Fullness, Does}
use Rattle.link.specs.Totals.{taken_by, handed_by, released_by}
use Rattle.link.proofs.Cases.{offer_cases, late_cases, dispatch_cases, frame_cases}
use Rattle.link.proofs.Flight.{Packed, packed}
use Rattle.link.proofs.Direction
use Rattle.link.proofs.Direction.{Direction}

-- the packet in a frame, and the ID that a reply names
abbrev packet_of : Result Content FrameFault → FrameM → List Packed
packet_of (Ok (content.Packet id n)) f = packed id n (cleared f.bytes) ∷ []
packet_of (Ok (content.Reply r)) f = []
packet_of (Err e) f = []

abbrev packet_in : FrameM → List Packed
packet_in f = packet_of (reading f) f

abbrev name_of : Result Content FrameFault → List ℕ
name_of (Ok (content.Packet id n)) = []
name_of (Ok (content.Reply r)) = r.id ∷ []
name_of (Err e) = []

abbrev name_in : FrameM → List ℕ
name_in f = name_of (reading f)

abbrev waiting_name : Option Reply → List ℕ
waiting_name None = []
waiting_name (Some r) = r.id ∷ []

-- the direction in which near takes packets and far hands them up
abbrev pub Between : EndM → EndM → List FrameM → List FrameM → List (List ℕ) → List (List ℕ) → ℕ → Type 0
Between near far there back T U R =
    Direction near.next near.held near.sent near.cursor far.expected T U R
    (flat_map packet_in there) (flat_map name_in back ++ waiting_name far.waiting)

-- what frames hold that a carrier adds, of which broken ones hold nothing
module _ {X : Type 0} (g : FrameM → List X) (broken_holds : (f : FrameM) (e : FrameFault) → reading f ≡ Err e → g f ≡ []) where
  joined_push : (w : List FrameM) (f : FrameM) → flat_map g (w ++ (f ∷ [])) ≡ flat_map g w ++ g f
  joined_push [] f = append-nil (g f)
  joined_push (e ∷ w) f = ap (λ l. g e ++ l) (joined_push w f) ∙ sym (append_assoc (g e) (flat_map g w) (g f))

  unless_good : (f : FrameM) → Broken f → (r : Result Content FrameFault) → reading f ≡ r → Says f r → g f ≡ []
  unless_good f b (Ok x) e says = absurd (b (says_good f (Ok x) refl says))
  unless_good f b (Err x) e _ = broken_holds f x e

  broken_none : (f : FrameM) (groups : ℕ) → Grouped f groups → Broken f → g f ≡ []
  broken_none f groups shape b = unless_good f b (reading f) refl (reading_says f groups shape (reading f) refl)

  -- a frame that is put adds what it holds, or nothing
  put : {w : List FrameM} {f : FrameM} {w' : List FrameM} → Added w f w' → (flat_map g w' ≡ flat_map g w ++ g f) ⊎ (flat_map g w' ≡ flat_map g w)
  put {w} {f} (whole e) = inl (ap (flat_map g) e ∙ joined_push w f)
  put {w} {f} (broken h groups shape b e) = inr (ap (flat_map g) e ∙ joined_push w h ∙ ap (λ l. flat_map g w ++ l) (broken_none h groups shape b) ∙ append-nil (flat_map g w))
  put {w} {f} (lost e) = inr (ap (flat_map g) e)

  put_other : {w : List FrameM} {f : FrameM} {w' : List FrameM} → g f ≡ [] → Added w f w' → flat_map g w' ≡ flat_map g w
  put_other {w} {f} {w'} holds_none p = elim (put p) [ inl e ↦ e ∙ ap (λ l. flat_map g w ++ l) holds_none ∙ append-nil (flat_map g w) | inr e ↦ e ]

no_packet : (f : FrameM) (e : FrameFault) → reading f ≡ Err e → packet_in f ≡ []
no_packet f e is = ap (λ r. packet_of r f) is

no_name : (f : FrameM) (e : FrameFault) → reading f ≡ Err e → name_in f ≡ []
no_name f e is = ap name_of is

-- what the frames hold that an end dispatches
sealed_packet : (id : ℕ) (p : List ℕ) → IsPacket p → packet_in (sealed id p) ≡ packed id (length p) p ∷ []
sealed_packet id p is = ap (λ r. packet_of r (sealed id p)) (reads_sealed id p is) ∙ ap (λ q. packed id (length p) q ∷ []) (sealed_cleared id p is)

sealed_name : (id : ℕ) (p : List ℕ) → IsPacket p → name_in (sealed id p) ≡ []
sealed_name id p is = ap name_of (reads_sealed id p is)

reply_packet : (r : Reply) → packet_in (reply_frame r) ≡ []
reply_packet r = ap (λ x. packet_of x (reply_frame r)) (reads_reply r)

reply_name : (r : Reply) → name_in (reply_frame r) ≡ r.id ∷ []
reply_name r = ap name_of (reads_reply r)

module _ (near far : EndM) (there back : List FrameM) (T U : List (List ℕ)) (R : ℕ) (w : Between near far there back T U R) where
  -- the calls of the near end

  abbrev near_sees : Local
  near_sees = record { end = near; out = there; into = back }

  abbrev NearAfter : Call → Outcome → Type 0
  NearAfter c o = Between o.left.end far o.left.out o.left.into (T ++ taken_by c o.answer) U (R + released_by o.answer)

  near_offers : (p : List ℕ) (o : Outcome) → o ≡ offering near_sees p → NearAfter (offer p) o
  near_offers p o is =
      subst (NearAfter (offer p)) (sym is)
      (offer_cases near_sees (NearAfter (offer p)) p
      (λ r _. rw (append-nil T, add-zero R) w)
      (λ packet few. rw (add-zero R) (Direction.offers w p packet few)))

  near_lates : (o : Outcome) → o ≡ rewinding near_sees → NearAfter late o
  near_lates o is =
      subst (NearAfter late) (sym is)
      (late_cases near_sees (NearAfter late)
      (rw (append-nil T, add-zero R) w)
      (rw (append-nil T, add-zero R) (Direction.rewinds w 0 (omega arith))))

  near_counts : (o : Outcome) → o ≡ counting near_sees → NearAfter outstanding o
  near_counts o is = subst (NearAfter outstanding) (sym is) (rw (append-nil T, add-zero R) w)

  near_replies : (r : Reply) (there' : List FrameM) → Added there (reply_frame r) there' → Between near far there' back T U R
  near_replies r there' p = rw (put_other packet_in no_packet (reply_packet r) p) w

  near_sends : near.cursor < length near.held → (there' : List FrameM) → Added there (sealed (cursor_id near) (get_or near.held near.cursor [])) there' → Between (advance near) far there' back T U R
  near_sends more there' p =
      elim (put packet_in no_packet p) [
        | inl e ↦ rw (e, sealed_packet (cursor_id near) (get_or near.held near.cursor []) (Direction.cursor_packet w more)) (Direction.sends_whole w more)
        | inr e ↦ rw e (Direction.sends_lost w more)
      ]

  near_dispatches : (full : Fullness) (o : Outcome) → Dispatches full near_sees o → NearAfter dispatch o
  near_dispatches full o =
      dispatch_cases near_sees (NearAfter dispatch) full
      (λ r _. rw (append-nil T, add-zero R) w)
      (λ r _ there' p. rw (append-nil T, add-zero R) (near_replies r there' p))
      (λ more there' p. rw (append-nil T, add-zero R) (near_sends more there' p))
      o

  -- a frame that arrives at the near end
  module _ (f : FrameM) (rest : List FrameM) (front : back ≡ f ∷ rest) where
    back_front : Direction near.next near.held near.sent near.cursor far.expected T U R (flat_map packet_in there) (name_in f ++ (flat_map name_in rest ++ waiting_name far.waiting))
    back_front =
        let v : Between near far there (f ∷ rest) T U R = subst (λ b. Between near far there b T U R) front w in
        rw (append_assoc (name_in f)) at v

    near_skips : Between near far there rest T U R
    near_skips = Direction.skips (name_in f) _ back_front

    near_reply : (r : Reply) → reading f ≡ Ok (content.Reply r) → Direction near.next near.held near.sent near.cursor far.expected T U R (flat_map packet_in there) (r.id ∷ (flat_map name_in rest ++ waiting_name far.waiting))
    near_reply r e = rw (ap name_of e) at back_front

    near_released : (r : Reply) → reading f ≡ Ok (content.Reply r) → (k : ReplyKind) → Between (rewind_on k (release (distance near r.id) near)) far there rest T U (R + distance near r.id)
    near_released r e Ack = Direction.releases (near_reply r e)
    near_released r e Nak = Direction.rewinds (Direction.releases (near_reply r e)) 0 (omega arith)

    near_takes : (buffer : List ℕ) → NearAfter (arrive buffer) (arriving_from (f ∷ rest) near_sees buffer)
    near_takes buffer =
        let same : Between near far there rest (T ++ []) U (R + 0) = rw (append-nil T, add-zero R) near_skips in
        frame_cases (record { end = near; out = there; into = rest }) (NearAfter (arrive buffer)) f buffer
        (λ n _ _. same)
        (λ r _. same)
        (λ r _. same)
        (λ r e _. rw (append-nil T) (near_released r e r.kind))
        (λ r _ _. same)

  near_arrives : (buffer : List ℕ) (o : Outcome) → o ≡ arriving near_sees buffer → NearAfter (arrive buffer) o
  near_arrives buffer o is = subst (NearAfter (arrive buffer)) (sym is) (by_back back refl)
    where
      by_back : (b : List FrameM) → back ≡ b → NearAfter (arrive buffer) (arriving_from b near_sees buffer)
      by_back [] e = rw (append-nil T, add-zero R) w
      by_back (f ∷ rest) e = near_takes f rest e buffer

  pub near_does : (full : Fullness) (c : Call) (o : Outcome) → Does full near_sees c o → NearAfter c o
  near_does full (offer p) o = near_offers p o
  near_does full dispatch o = near_dispatches full o
  near_does full late o = near_lates o
  near_does full outstanding o = near_counts o
  near_does full (arrive buffer) o = near_arrives buffer o

  -- the calls of the far end

  abbrev far_sees : Local
  far_sees = record { end = far; out = back; into = there }

  abbrev FarAfter : Outcome → Type 0
  FarAfter o = Between near o.left.end o.left.into o.left.out T (U ++ handed_by o.answer o.buffer) R

  far_same : Between near far there back T (U ++ []) R
  far_same = rw (append-nil U) w

  far_offers : (p : List ℕ) (o : Outcome) → o ≡ offering far_sees p → FarAfter o
  far_offers p o is = subst FarAfter (sym is) (offer_cases far_sees FarAfter p (λ r _. far_same) (λ _ _. far_same))

  far_lates : (o : Outcome) → o ≡ rewinding far_sees → FarAfter o
  far_lates o is = subst FarAfter (sym is) (late_cases far_sees FarAfter far_same far_same)

  far_counts : (o : Outcome) → o ≡ counting far_sees → FarAfter o
  far_counts o is = subst FarAfter (sym is) far_same

  far_replies : (r : Reply) → far.waiting ≡ Some r → (back' : List FrameM) → Added back (reply_frame r) back' → Between near (clear_reply far) there back' T U R
  far_replies r waits back' p =
      let v : Direction near.next near.held near.sent near.cursor far.expected T U R (flat_map packet_in there) (flat_map name_in back ++ (r.id ∷ [])) = rw waits at w in
      rw (append-nil (flat_map name_in back'))
      (elim (put name_in no_name p) [
        | inl e ↦ rw (e, reply_name r) v
        | inr e ↦ rw e (Direction.loses (flat_map name_in back) (r.id ∷ []) v)
      ])

  -- the packet at the far end's own cursor is one: so says the other direction
  module _ (packet : far.cursor < length far.held → IsPacket (get_or far.held far.cursor [])) where
    far_sends : far.cursor < length far.held → (back' : List FrameM) → Added back (sealed (cursor_id far) (get_or far.held far.cursor [])) back' → Between near (advance far) there back' T U R
    far_sends more back' p = rw (put_other name_in no_name (sealed_name (cursor_id far) (get_or far.held far.cursor []) (packet more)) p) w

    far_dispatches : (full : Fullness) (o : Outcome) → Dispatches full far_sees o → FarAfter o
    far_dispatches full o =
        dispatch_cases far_sees FarAfter full
        (λ r _. far_same)
        (λ r waits back' p. rw (append-nil U) (far_replies r waits back' p))
        (λ more back' p. rw (append-nil U) (far_sends more back' p))
        o

  -- a frame that arrives at the far end
  module _ (f : FrameM) (rest : List FrameM) (front : there ≡ f ∷ rest) where
    there_front : Between near far (f ∷ rest) back T U R
    there_front = subst (λ l. Between near far l back T U R) front w

    far_passes : Between near far rest back T U R
    far_passes = Direction.passes (packet_in f) there_front

    far_objects : Between near (object far) rest back T U R
    far_objects =
        elim far.flag as (λ b. Direction near.next near.held near.sent near.cursor far.expected T U R (flat_map packet_in rest) (flat_map name_in back ++ waiting_name (cond b far.waiting (Some (nak ((far.expected + 255) % 256)))))) [
          | true ↦ far_passes
          | false ↦ Direction.objects (flat_map name_in back) (waiting_name far.waiting) far_passes
        ]

    -- the frame is the expected packet
    module _ (n : ℕ) (buffer : List ℕ) (e : reading f ≡ Ok (content.Packet far.expected n)) where
      expected_front : Direction near.next near.held near.sent near.cursor far.expected T U R (packed far.expected n (cleared f.bytes) ∷ flat_map packet_in rest) (flat_map name_in back ++ waiting_name far.waiting)
      expected_front = rw (ap (λ r. packet_of r f) e) at there_front

      first_bytes : take n (cleared f.bytes ++ drop n buffer) ≡ cleared f.bytes
      first_bytes = take_at (cleared f.bytes) (drop n buffer) n (sym (Direction.size_is n (cleared f.bytes) expected_front))

      far_hands : Between near (accept far) rest back T (U ++ (take n (cleared f.bytes ++ drop n buffer) ∷ [])) R
      far_hands = rw first_bytes (Direction.hands n (cleared f.bytes) (flat_map name_in back) (waiting_name far.waiting) expected_front)

    far_takes : (buffer : List ℕ) → FarAfter (arriving_from (f ∷ rest) far_sees buffer)
    far_takes buffer =
        frame_cases (record { end = far; out = back; into = rest }) FarAfter f buffer
        (λ n e _. far_hands n buffer e)
        (λ r _. rw (append-nil U) far_objects)
        (λ r _. rw (append-nil U) far_passes)
        (λ r _ _. far_released (distance far r.id) r.kind)
        (λ r _ _. rw (append-nil U) far_passes)
      where
        far_released : (d : ℕ) (k : ReplyKind) → Between near (rewind_on k (release d far)) rest back T (U ++ []) R
        far_released d Ack = rw (append-nil U) far_passes
        far_released d Nak = rw (append-nil U) far_passes

  far_arrives : (buffer : List ℕ) (o : Outcome) → o ≡ arriving far_sees buffer → FarAfter o
  far_arrives buffer o is = subst FarAfter (sym is) (by_there there refl)
    where
      by_there : (l : List FrameM) → there ≡ l → FarAfter (arriving_from l far_sees buffer)
      by_there [] e = far_same
      by_there (f ∷ rest) e = far_takes f rest e buffer

  pub far_does : (far.cursor < length far.held → IsPacket (get_or far.held far.cursor [])) → (full : Fullness) (c : Call) (o : Outcome) → Does full far_sees c o → FarAfter o
  far_does packet full (offer p) o = far_offers p o
  far_does packet full dispatch o = far_dispatches packet full o
  far_does packet full late o = far_lates o
  far_does packet full outstanding o = far_counts o
  far_does packet full (arrive buffer) o = far_arrives buffer o

  -- no call of the near end is refused with 12

  abbrev Named : Outcome → Type 0
  Named o = number_of o.answer ≡ 12 → ⊥

  arrives_named : (buffer : List ℕ) (b : List FrameM) → back ≡ b → Named (arriving_from b near_sees buffer)
  arrives_named buffer [] e = omega arith
  arrives_named buffer (f ∷ rest) front =
      frame_cases (record { end = near; out = there; into = rest }) Named f buffer
      (λ n _ _. omega arith)
      (λ r other. other)
      (λ r other. other)
      (λ r _ _. omega arith)
      (λ r e above. absurd (omega (arith, Direction.place (near_reply f rest front r e))))

  pub near_named : (full : Fullness) (c : Call) (o : Outcome) → Does full near_sees c o → Named o
  near_named full (offer p) o is = subst Named (sym is) (offer_cases near_sees Named p (λ r other. other) (λ _ _. omega arith))
  near_named full dispatch o d = dispatch_cases near_sees Named full (λ r other. other) (λ r _ _ _. omega arith) (λ _ _ _. omega arith) o d
  near_named full late o is = subst Named (sym is) (late_cases near_sees Named (omega arith) (omega arith))
  near_named full outstanding o is = subst Named (sym is) (omega arith)
  near_named full (arrive buffer) o is = subst Named (sym is) (arrives_named buffer back refl)
