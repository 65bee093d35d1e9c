-- What each command on a carrier answers, and what it makes of the carrier.
use Rattle.std.specs.Prelude.{ℕ, Bool, if◌then◌else◌, List, [], ◌∷◌, ◌++◌, drop, Some, None, Ok, Err, Option, Result}
use Rattle.std.specs.Option.{option_map}
use Rattle.frame.specs.Frame.{FrameM}
use Rattle.carrier.specs.Carrying.{groups_of}
use Rattle.carrier.specs.Fault.{carrier_refusal, plan_refusal}
use Rattle.carrier.specs.Harm.{harmed}
use Rattle.carrier.specs.Harming.{carrier_below, plan_of, planning, planned, next_harm}
use Rattle.carrier.specs.Straight.{straight_waiting, straight_full}
use Rattle.carrier.specs.declared.fault.CarrierFault.TheVariants.{Full, NoneWaiting}
use Rattle.carrier.specs.declared.fault.PlanFault.{PlanFault}
use Rattle.carrier.specs.declared.harm.Harm.{Harm}
use Rattle.carrier.specs.declared.harming.Harming.{Harming}
use Rattle.carrier.specs.declared.straight.Straight.{Straight}
use Rattle.commands.specs.declared.answer.Answer.{Answer}
use Rattle.commands.specs.declared.answer.Answer.TheVariants.{Planned, Put, Taken, Refused}
use Rattle.commands.specs.declared.trouble.Trouble.{Trouble}
use Rattle.commands.specs.declared.trouble.Trouble.TheVariants.{NoFrame, NoCarrier}

-- the frames that wait, oldest first, each as it will come out, and the harms that are planned, the next first
pub record CarrierM : Type 0 where
  pub waiting : List FrameM
  pub plan : List Harm

-- what a carrier holds
abbrev pub carrying : Harming Straight → CarrierM
carrying c = record { waiting = straight_waiting (carrier_below c); plan = plan_of c }

-- nothing waits, and nothing is planned
abbrev pub unused : CarrierM
unused = record { waiting = []; plan = [] }

-- an answer about the carrier, where there is one
abbrev pub on_carrier : Option CarrierM → (CarrierM → Answer) → Result Answer Trouble
on_carrier None answer = Err NoCarrier
on_carrier (Some c) answer = Ok (answer c)

-- what planning gave
abbrev pub planning_answer : Result ℕ PlanFault → Answer
planning_answer (Ok harms) = Planned harms
planning_answer (Err f) = Refused (plan_refusal f)

-- how many harms are planned then, or why this one is not
abbrev pub plan_answer : Harm → CarrierM → Answer
plan_answer harm c = planning_answer (planning c.plan harm)

-- the carrier with the harm at the end of its plan, or as it was where the plan does not take it
abbrev pub plan_after : Harm → CarrierM → CarrierM
plan_after harm c = record c { plan = planned c.plan harm }

-- whether there is no room for the frame
abbrev pub full_for : FrameM → CarrierM → Bool
full_for f c = straight_full c.waiting (groups_of f)

-- the frame is put, or there is no room for it
abbrev pub put_answer : FrameM → CarrierM → Answer
put_answer f c = if full_for f c then Refused (carrier_refusal Full) else Put

-- what waits then: what is left of the frame stands at the end, if anything is left of it
abbrev pub waiting_after : Option FrameM → List FrameM → List FrameM
waiting_after None waiting = waiting
waiting_after (Some f) waiting = waiting ++ f ∷ []

-- the carrier after a put: where there is room, the oldest harm is used up on the frame
abbrev pub put_after : FrameM → CarrierM → CarrierM
put_after f c = if full_for f c then c else record { waiting = waiting_after (harmed (next_harm c.plan) f) c.waiting; plan = drop 1 c.plan }

-- the answer to a put, which asks for the frame first and then for the carrier
abbrev pub put_says : Option FrameM → Option CarrierM → Result Answer Trouble
put_says None c = Err NoFrame
put_says (Some f) c = on_carrier c (put_answer f)

-- the carrier after a put, if there is a frame and a carrier
abbrev pub put_leaves : Option FrameM → Option CarrierM → Option CarrierM
put_leaves None c = c
put_leaves (Some f) c = option_map (put_after f) c

-- a frame is taken, or none waits
abbrev pub taking_answer : List FrameM → Answer
taking_answer [] = Refused (carrier_refusal NoneWaiting)
taking_answer (f ∷ later) = Taken

-- the answer to a take
abbrev pub take_answer : CarrierM → Answer
take_answer c = taking_answer c.waiting

-- the carrier without the oldest frame that waits
abbrev pub take_after : CarrierM → CarrierM
take_after c = record c { waiting = drop 1 c.waiting }

-- the oldest of the frames, or the one that was there if there is none
abbrev pub oldest_or : List FrameM → Option FrameM → Option FrameM
oldest_or [] old = old
oldest_or (f ∷ later) old = Some f

-- the current frame after a take, if there is a carrier
abbrev pub take_frame : Option CarrierM → Option FrameM → Option FrameM
take_frame None old = old
take_frame (Some c) old = oldest_or c.waiting old
