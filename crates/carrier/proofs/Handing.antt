-- What a harming carrier makes of the one below it.
use Rattle.std.proofs.Common.{◌≡◌, ℕ, ◌*◌, ◌/◌, Bool, false, List, length, IfOk, Some, Ok, Result, sym, ap, ◌∙◌, subst, ap₂, inl, inr, arith, MatchResult}
use Rattle.frame.specs.Frame.{FrameM}
use Rattle.carrier.specs.Carrying.{groups_of, putting, Added, whole, broken, lost}
use Rattle.carrier.specs.Harm.{harmed, Worse}
use Rattle.carrier.specs.Harming.{HandedTo}
use Rattle.carrier.specs.declared.fault.CarrierFault.{CarrierFault}
use Rattle.carrier.specs.declared.harm.Harm.{Harm}

-- a frame that a harm hands on has as many groups as the one that was put
pub groups_stay : (f g : FrameM) → Worse f (Some g) → groups_of g ≡ groups_of f
groups_stay f g (inl e) = ap groups_of e
groups_stay f g (inr b) = ap (λ n. n / 128) (b.like.bytes_long ∙ sym b.was.bytes_long)

-- and where that one was added, so was the one that was put, or a broken one, or nothing
pub added_worse : (before after : List FrameM) (f g : FrameM) → Worse f (Some g) → Added before g after → Added before f after
added_worse before after f g (inl e) is = subst (λ h. Added before h after) e is
added_worse before after f g (inr b) (whole e) = broken g b.groups b.like b.broken e
added_worse before after f g (inr b) (broken h groups shape k e) = broken h groups shape k e
added_worse before after f g (inr b) (lost e) = lost e

-- the number of groups of a frame
pub counted : (f : FrameM) (n : ℕ) → 128 * n ≡ length f.bytes → n ≡ groups_of f
counted f n e = let h : length f.bytes ≡ 128 * n = sym e in omega arith

-- what holds of a put that was accepted
accepted : {A E : Type 0} {r : Result A E} {a : A} (P : A → Type 0) (Q : E → Type 0) → r ≡ Ok a → MatchResult r P Q → P a
accepted P Q e p = subst (λ r. MatchResult r P Q) e p

holds : {A E : Type 0} {r : Result A E} {a : A} (P : A → Type 0) (Q : E → Type 0) → r ≡ Ok a → P a → MatchResult r P Q
holds P Q e p = subst (λ r. MatchResult r P Q) (sym e) p

-- the carrier below, as it was and after it was handed the frame h that a harm made of the frame f
module _ {C : Type 0} (waiting : C → List FrameM) (full : List FrameM → ℕ → Bool) (old mid new : C) (same : mid ≡ old) (f h : FrameM) (worse : Worse f (Some h))
    (free : full (waiting old) (groups_of f) ≡ false) (r : Result (Unit {0}) CarrierFault) (below : r ≡ putting (full (waiting mid) (groups_of h))) where
  pub answers : r ≡ putting (full (waiting old) (groups_of f))
  answers = below ∙ ap₂ (λ c n. putting (full (waiting c) n)) same (groups_stay f h worse)

  is_ok : r ≡ Ok tt
  is_ok = answers ∙ ap putting free

  pub added_here : (Q : CarrierFault → Type 0) → MatchResult r (λ _. Added (waiting mid) h (waiting new)) (λ _. new ≡ mid) → MatchResult r (λ _. Added (waiting old) f (waiting new)) Q
  added_here Q is =
      let a : Added (waiting mid) h (waiting new) = accepted (λ _. Added (waiting mid) h (waiting new)) (λ _. new ≡ mid) is_ok is in
      holds (λ _. Added (waiting old) f (waiting new)) Q is_ok (added_worse (waiting old) (waiting new) f h worse (subst (λ c. Added (waiting c) h (waiting new)) same a))

  pub handed_here : (adds : C → FrameM → C → Type 0) (used harm : Harm) → used ≡ harm → Some h ≡ harmed used f → IfOk r (λ _. adds mid h new) → HandedTo adds old (harmed harm f) new
  handed_here adds used harm e made is =
      let a : adds mid h new = accepted (λ _. adds mid h new) (λ _. Unit {0}) is_ok is in
      subst (λ o. HandedTo adds old o new) (made ∙ ap (λ x. harmed x f) e) (subst (λ c. adds c h new) same a)

  pub exactly_here : (P : Type 0) (Q : CarrierFault → Type 0) → P → MatchResult r (λ _. P) Q
  exactly_here P Q p = holds (λ _. P) Q is_ok p
