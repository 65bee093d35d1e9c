-- What was read so far, and what the parts that are left read as.
use Rattle.std.proofs.Common.{◌≡◌, List, [], ◌∷◌, ◌++◌, Some, None, Option, sym, refl, ap, ◌∙◌, append_assoc, append-nil}
use Rattle.std.specs.Iterator.{AlwaysYields}
use Rattle.std.specs.Option.{option_map}
use Rattle.accbox.specs.Read.{with_first, all_read}

module _ {X : Type 0} where
  abbrev pub after : List X → Option (List X) → Option (List X)
  after done rest = option_map (λ xs. done ++ xs) rest

  moved : (done : List X) (x : X) (rest : Option (List X)) → after done (with_first (Some x) rest) ≡ after (done ++ x ∷ []) rest
  moved done x None = refl
  moved done x (Some xs) = ap Some (sym (append_assoc done (x ∷ []) xs))

module _ {S X : Type 0} (steps : S → Option (Option X) → S → Type 0) where
  -- the parts that s still gives, behind what is done, are the parts
  abbrev pub Left : S → List X → List (Option X) → Type 0
  Left s done parts = (rest : List (Option X)) × AlwaysYields steps {B = Option X} (λ x. x) s rest × (all_read parts ≡ after done (all_read rest))

  pub left_more : (s t : S) (done more : List X) (x : X) (parts : List (Option X)) → steps s (Some (Some x)) t → more ≡ done ++ x ∷ [] → Left s done parts → Left t more parts
  left_more s t done more x parts step pushed ([], gives, is) = absurd (gives (Some x) t step)
  left_more s t done more x parts step pushed (y ∷ ys, gives, is) =
      let h = gives.1 (Some x) t step in
      (ys, h.1, is ∙ rw (← h.0, pushed) (moved done x (all_read ys)))

  pub left_none : (s t : S) (done : List X) (parts : List (Option X)) → steps s (Some None) t → Left s done parts → None ≡ all_read parts
  left_none s t done parts step ([], gives, is) = absurd (gives None t step)
  left_none s t done parts step (y ∷ ys, gives, is) = sym (is ∙ rw (← (gives.1 None t step).0) refl)

  pub left_end : (s t : S) (done : List X) (parts : List (Option X)) → steps s None t → Left s done parts → Some done ≡ all_read parts
  left_end s t done parts step ([], gives, is) = sym (is ∙ ap Some (append-nil done))
  left_end s t done parts step (y ∷ ys, gives, is) = absurd (gives.0 t step)
