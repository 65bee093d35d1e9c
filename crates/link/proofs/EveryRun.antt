-- Every run from a fresh pair is faithful.
use Rattle.std.proofs.Common.{◌≡◌, ℕ, ◌+◌, List, [], ◌∷◌, ◌++◌, length, drop, sym, refl, ap, ◌∙◌, subst₂, append_assoc, add-zero, add_assoc, zero-add, arith}
use Rattle.std.proofs.lemmas.List.{append-nil, take-append-drop, take_all}
use Rattle.std.specs.List.{AllByRecursion}
use Rattle.frame.specs.Frame.{FrameM}
use Rattle.link.specs.declared.side.Side.{Side}
use Rattle.link.specs.declared.side.Side.TheVariants.{A, B}
use Rattle.link.specs.End.{EndM}
use Rattle.link.specs.Outcome.{Answer, Outcome, number_of}
use Rattle.link.specs.Runs.{Call, Event, PairM, fresh_pair, seen_by, Fullness, Does, Step, Run, start, next}
use Rattle.link.specs.Totals.{taken_by, handed_by, released_by, at_side, all_taken, all_handed, all_released, other}
use Rattle.link.specs.Law.{Kept, Law}
use Rattle.link.proofs.Flight
use Rattle.link.proofs.Rising
use Rattle.link.proofs.Direction
use Rattle.link.proofs.Direction.{Direction}
use Rattle.link.proofs.Calls.{Between, near_does, far_does, near_named}

-- what was taken, handed up and released at one side
record Totals : Type 0 where
  took : List (List ℕ)
  handed : List (List ℕ)
  freed : ℕ

abbrev none_yet : Totals
none_yet = record { took = []; handed = []; freed = 0 }

-- the same with one call more, and with any number of calls
abbrev after_call : Side → Totals → Event → Totals
after_call m p e = record {
  took = p.took ++ at_side m e.side (taken_by e.call e.answer) [];
  handed = p.handed ++ at_side m e.side (handed_by e.answer e.buffer) [];
  freed = p.freed + at_side m e.side (released_by e.answer) 0;
}

abbrev after_calls : Side → Totals → List Event → Totals
after_calls m p es = record { took = p.took ++ all_taken m es; handed = p.handed ++ all_handed m es; freed = p.freed + all_released m es }

after_none : (m : Side) (p : Totals) → p ≡ after_calls m p []
after_none m p = sym (rw (append-nil p.took, append-nil p.handed, add-zero p.freed))

after_more : (m : Side) (p : Totals) (e : Event) (es : List Event) → after_calls m (after_call m p e) es ≡ after_calls m p (e ∷ es)
after_more m p e es = rw (append_assoc p.took, append_assoc p.handed, add_assoc p.freed)

-- one direction of the pair, with the totals of its near end p and of its far end q
abbrev Way : EndM → EndM → List FrameM → List FrameM → Totals → Totals → Type 0
Way near far there back p q = Between near far there back p.took q.handed p.freed

-- a call at the near end, as both directions see it
turn : (full : Fullness) (near far : EndM) (there back : List FrameM) (p q : Totals) (c : Call) (o : Outcome) (far' : EndM)
    → Way near far there back p q → Way far near back there q p
    → Does full (record { end = near; out = there; into = back }) c o → far' ≡ far
    → Between o.left.end far' o.left.out o.left.into (p.took ++ taken_by c o.answer) (q.handed ++ []) (p.freed + released_by o.answer)
    × Between far' o.left.end o.left.into o.left.out (q.took ++ []) (p.handed ++ handed_by o.answer o.buffer) (q.freed + 0)
turn full near far there back p q c o far' go come does same = (
  rw (same, append-nil q.handed) (near_does near far there back p.took q.handed p.freed go full c o does),
  rw (same, append-nil q.took, add-zero q.freed) (far_does far near back there q.took p.handed q.freed come (Direction.cursor_packet go) full c o does),
)

-- both directions, with the totals of a and b
abbrev Both : PairM → Totals → Totals → Type 0
Both s p q = Way s.a s.b s.there s.back p q × Way s.b s.a s.back s.there q p

module _ (there back : Fullness) where
  module _ (s : PairM) (p q : Totals) (both : Both s p q) (t : PairM) where
    step_keeps : (d : Side) (c : Call) (x : Answer) (b : List ℕ) → Step there back s (record { side = d; call = c; answer = x; buffer = b }) t → Both t (after_call A p (record { side = d; call = c; answer = x; buffer = b })) (after_call B q (record { side = d; call = c; answer = x; buffer = b }))
    step_keeps A c x b step = turn there s.a s.b s.there s.back p q c _ t.b both.0 both.1 step.does step.stays
    step_keeps B c x b step =
        let ways = turn back s.b s.a s.back s.there q p c _ t.a both.1 both.0 step.does step.stays in
        (ways.1, ways.0)

    step_named : (d : Side) (c : Call) (x : Answer) (b : List ℕ) → Step there back s (record { side = d; call = c; answer = x; buffer = b }) t → number_of x ≡ 12 → ⊥
    step_named A c x b step = near_named s.a s.b s.there s.back p.took q.handed p.freed both.0 there c _ step.does
    step_named B c x b step = near_named s.b s.a s.back s.there q.took p.handed q.freed both.1 back c _ step.does

  run_keeps : {s t : PairM} {es : List Event} (p q : Totals) → Both s p q → Run there back s es t → Both t (after_calls A p es) (after_calls B q es) × AllByRecursion (λ e. number_of e.answer ≡ 12 → ⊥) es
  run_keeps {t = t} p q both start = (subst₂ (Both t) (after_none A p) (after_none B q) both, tt)
  run_keeps {t = u} p q both (next {s} {t} {e = e} {es} step run) =
      let kept = step_keeps s p q both t e.side e.call e.answer e.buffer step in
      let (all, named) = run_keeps (after_call A p e) (after_call B q e) kept run in
      (subst₂ (Both u) (after_more A p e es) (after_more B q e es) all, (step_named s p q both t e.side e.call e.answer e.buffer step, named))

-- what a direction says of the totals
kept : (near far : EndM) (there back : List FrameM) (T U : List (List ℕ)) (R : ℕ) → Between near far there back T U R → Kept T U R (length near.held)
kept near far there back T U R w =
    let held = Direction.held_length w in
    record {
      first = (drop (length U) T, sym (ap (λ l. l ++ drop (length U) T) w.far.handed_is ∙ take-append-drop (length U) T));
      kept = sym held;
      after = w.far.freed_handed;
      settled = λ none. w.far.handed_is ∙ take_all (length U) T (omega (arith, w.far.freed_handed));
    }

at_first : Both fresh_pair none_yet none_yet
at_first =
    let w : Direction 0 [] 0 0 0 [] [] 0 [] [] =
    record {
      near = record { held_is = refl; next_is = refl; room = omega arith; cursor_sent = omega arith; sent_took = omega arith; packets = tt };
      far = record { handed_is = refl; expected_is = refl; freed_handed = omega arith; handed_sent = omega arith };
      flight = Flight.none;
      replies = Rising.none (omega arith);
    } in
    (w, w)

pub every_run : (there back : Fullness) → Law there back fresh_pair
every_run there back es t run =
    let (both, named) = run_keeps there back none_yet none_yet at_first run in
    let way_a = kept t.a t.b t.there t.back (all_taken A es) (all_handed B es) (0 + all_released A es) both.0 in
    let way_b = kept t.b t.a t.back t.there (all_taken B es) (all_handed A es) (0 + all_released B es) both.1 in
    record {
      each = λ near. elim near as (λ d. Kept (all_taken d es) (all_handed (other d) es) (all_released d es) (length (seen_by d t).end.held)) [
        | A ↦ rw zero-add at way_a
        | B ↦ rw zero-add at way_b
      ];
      named = named;
    }
