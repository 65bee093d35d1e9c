-- The harming carrier: its plan, and what it hands to the carrier below.
use Rattle.std.specs.Prelude.{◌≡◌, ℕ, ◌+◌, if◌then◌else◌, List, [], ◌∷◌, ◌++◌, length, drop, Some, None, Ok, Err, Option, Result, nat_le}
use Rattle.frame.specs.Frame.{FrameM}
use Rattle.carrier.specs.Harm.{harmed, harms}
use Rattle.carrier.specs.Queue.{queue_items}
use Rattle.carrier.specs.declared.fault.PlanFault.{PlanFault}
use Rattle.carrier.specs.declared.fault.PlanFault.TheVariants.{Mask, Full}
use Rattle.carrier.specs.declared.harm.Harm.{Harm}
use Rattle.carrier.specs.declared.harm.Harm.TheVariants.{Pass}
use Rattle.carrier.specs.declared.harming.Harming.{Harming}

-- what is planned, the next first
abbrev pub plan_of : {C : Type 0} → Harming C → List Harm
plan_of s = queue_items s.plan

-- the carrier below
abbrev pub carrier_below : {C : Type 0} → Harming C → C
carrier_below s = s.inner

-- why a harm is not planned: first a mask of zero, then a plan of 64
abbrev pub plan_fault : List Harm → Harm → Option PlanFault
plan_fault plan harm = if harms harm then (if nat_le 64 (length plan) then Some Full else None) else Some Mask

-- the answer, by that reason
abbrev pub planning_unless : Option PlanFault → List Harm → Result ℕ PlanFault
planning_unless None plan = Ok (length plan + 1)
planning_unless (Some fault) plan = Err fault

-- what planning a harm answers: how many are planned then, or why it is not
abbrev pub planning : List Harm → Harm → Result ℕ PlanFault
planning plan harm = planning_unless (plan_fault plan harm) plan

-- the plan after it, by that reason
abbrev pub planned_unless : Option PlanFault → List Harm → Harm → List Harm
planned_unless None plan harm = plan ++ harm ∷ []
planned_unless (Some fault) plan harm = plan

-- the plan after it: one longer, or as it was
abbrev pub planned : List Harm → Harm → List Harm
planned plan harm = planned_unless (plan_fault plan harm) plan harm

-- the oldest harm of a plan; with none left, the frame passes
abbrev pub next_harm : List Harm → Harm
next_harm [] = Pass
next_harm (harm ∷ plan) = harm

-- the carrier below is handed a frame, or none and stays as it is
abbrev pub HandedTo : {C : Type 0} → (C → FrameM → C → Type 0) → C → Option FrameM → C → Type 0
HandedTo adds old None new = new ≡ old
HandedTo adds old (Some f) new = adds old f new

-- a put uses up the oldest harm, and hands the carrier below what that makes of the frame
pub record Handed {C : Type 0} (adds : C → FrameM → C → Type 0) (old : Harming C) (f : FrameM) (new : Harming C) : Type 0 where
  pub used : plan_of new ≡ drop 1 (plan_of old)
  pub handed : HandedTo adds (carrier_below old) (harmed (next_harm (plan_of old)) f) (carrier_below new)
