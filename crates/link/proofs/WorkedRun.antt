-- The worked run is a run, over every two carriers that are not full when nothing waits.
use Rattle.std.proofs.Common.{◌≡◌, ℕ, false, List, [], ◌∷◌, ◌++◌, length, replicate, None, sym, refl, ap, ◌∙◌, subst}
use Rattle.terms.specs.declared.reply.Reply.{Reply}
use Rattle.frame.specs.Form.{sealed, reply_frame}
use Rattle.frame.specs.Frame.{FrameM}
use Rattle.frame.specs.Lowest.{lowest_wrong}
use Rattle.frame.specs.Packet.{IsPacket, packet_fault}
use Rattle.frame.specs.Reading.{reading}
use Rattle.frame.specs.Reserved.{reserved, cleared}
use Rattle.frame.proofs.Protocols.{sealed_cleared}
use Rattle.frame.proofs.Readings.{reads_sealed, reads_reply}
use Rattle.carrier.specs.Carrying.{groups_of, Added, whole, lost}
use Rattle.link.specs.declared.side.Side.TheVariants.{A, B}
use Rattle.link.specs.End.{EndM, fresh, nak, hold, rewind, advance, clear_reply, accept, object, release}
use Rattle.link.specs.Outcome
use Rattle.link.specs.Rules
use Rattle.link.specs.Runs.{PairM, fresh_pair, Fullness, Run, start, next, seen_by}
use Rattle.link.specs.Worked.{filled, buffer, worked, worked_pair}

no_fault : (b : ℕ) → packet_fault (filled b) ≡ None
unfolding lowest_wrong reserved
no_fault b = refl

is_packet : (b : ℕ) → IsPacket (filled b)
unfolding cleared reserved
is_packet b = record { long = refl; clear = refl }

-- the ends, call by call
abbrev pair : EndM → EndM → List FrameM → List FrameM → PairM
pair a b there back = record { a = a; b = b; there = there; back = back }

abbrev a2 : EndM
a2 = hold (filled 8) (hold (filled 7) fresh)

abbrev a4 : EndM
a4 = advance (advance a2)

abbrev a7 : EndM
a7 = rewind (release 0 a4)

abbrev a10 : EndM
a10 = rewind (advance a7)

abbrev b5 : EndM
b5 = object fresh

abbrev b9 : EndM
b9 = accept (clear_reply b5)

abbrev b12 : EndM
b12 = object b9

-- an arrive of a frame, by what reading it gives
module _ (s : Outcome.Local) (f : FrameM) where
  abbrev rest_sees : Outcome.Local
  rest_sees = record { end = s.end; out = s.out; into = [] }

  reads_packet : (id : ℕ) (p : List ℕ) → IsPacket p → f ≡ sealed id p → Rules.arriving_packet rest_sees id (length p) f buffer ≡ Rules.arriving_from (f ∷ []) s buffer
  reads_packet id p is e = ap (λ r. Rules.arriving_read r rest_sees f buffer) (sym (ap reading e ∙ reads_sealed id p is))

  reads_a_reply : (r : Reply) → f ≡ reply_frame r → Rules.arriving_reply rest_sees r buffer ≡ Rules.arriving_from (f ∷ []) s buffer
  reads_a_reply r e = ap (λ x. Rules.arriving_read x rest_sees f buffer) (sym (ap reading e ∙ reads_reply r))

-- a put where nothing waits
module _ (full : Fullness) (empty : (groups : ℕ) → full [] groups ≡ false) where
  puts : (s : Outcome.Local) (w : Rules.Sending) (out : List FrameM) → s.out ≡ [] → Added s.out w.frame out
      → Rules.SentUnless (full s.out (groups_of w.frame)) s w (Rules.once_put s w out)
  puts s w out none added =
      let free : full s.out (groups_of w.frame) ≡ false = ap (λ l. full l (groups_of w.frame)) none ∙ empty (groups_of w.frame) in
      subst (λ b. Rules.SentUnless b s w (Rules.once_put s w out)) (sym free) (record { out = out; added = added; is = refl })

module _ (there back : Fullness) (empty_there : (groups : ℕ) → there [] groups ≡ false) (empty_back : (groups : ℕ) → back [] groups ≡ false) where
  abbrev f0 : FrameM
  f0 = sealed 0 (filled 7)

  abbrev f1 : FrameM
  f1 = sealed 1 (filled 8)

  abbrev nak_255 : FrameM
  nak_255 = reply_frame (nak 255)

  abbrev nak_0 : FrameM
  nak_0 = reply_frame (nak 0)

  pub worked_runs : Run there back fresh_pair worked worked_pair
  worked_runs =
      next {t = pair (hold (filled 7) fresh) fresh [] []} (record { does = ap (λ x. Rules.offering_unless x (seen_by A fresh_pair) (filled 7)) (sym (no_fault 7)); stays = refl })
      (next {t = pair a2 fresh [] []} (record { does = ap (λ x. Rules.offering_unless x (seen_by A (pair (hold (filled 7) fresh) fresh [] [])) (filled 8)) (sym (no_fault 8)); stays = refl })
      (next {t = pair (advance a2) fresh [] []} (record { does = puts there empty_there _ _ _ refl (lost refl); stays = refl })
      (next {t = pair a4 fresh (f1 ∷ []) []} (record { does = puts there empty_there _ _ _ refl (whole refl); stays = refl })
      (next {t = pair a4 b5 [] []} (record { does = reads_packet (seen_by B (pair a4 fresh (f1 ∷ []) [])) f1 1 (filled 8) (is_packet 8) refl; stays = refl })
      (next {t = pair a4 (clear_reply b5) [] (nak_255 ∷ [])} (record { does = puts back empty_back _ _ _ refl (whole refl); stays = refl })
      (next {t = pair a7 (clear_reply b5) [] []} (record { does = reads_a_reply (seen_by A (pair a4 (clear_reply b5) [] (nak_255 ∷ []))) nak_255 (nak 255) refl; stays = refl })
      (next {t = pair (advance a7) (clear_reply b5) (f0 ∷ []) []} (record { does = puts there empty_there _ _ _ refl (whole refl); stays = refl })
      (next {t = pair (advance a7) b9 [] []} (record { does = ap (λ bytes. Outcome.becomes (record { end = clear_reply b5; out = []; into = [] }) b9 (Outcome.handed_up 0 128) (bytes ++ replicate 512 0xEE)) (sym (sealed_cleared 0 (filled 7) (is_packet 7))) ∙ reads_packet (seen_by B (pair (advance a7) (clear_reply b5) (f0 ∷ []) [])) f0 0 (filled 7) (is_packet 7) refl; stays = refl })
      (next {t = pair a10 b9 [] []} (record { does = refl; stays = refl })
      (next {t = pair (advance a10) b9 (f0 ∷ []) []} (record { does = puts there empty_there _ _ _ refl (whole refl); stays = refl })
      (next {t = pair (advance a10) b12 [] []} (record { does = reads_packet (seen_by B (pair (advance a10) b9 (f0 ∷ []) [])) f0 0 (filled 7) (is_packet 7) refl; stays = refl })
      (next {t = pair (advance a10) (clear_reply b12) [] (nak_0 ∷ [])} (record { does = puts back empty_back _ _ _ refl (whole refl); stays = refl })
      (next {t = worked_pair} (record { does = reads_a_reply (seen_by A (pair (advance a10) (clear_reply b12) [] (nak_0 ∷ []))) nak_0 (nak 0) refl; stays = refl })
      (next {t = worked_pair} (record { does = refl; stays = refl })
      start))))))))))))))
