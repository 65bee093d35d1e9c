-- The number, layer and place of every fault of a carrier.
use Rattle.terms.specs.declared.fault.Layer.TheVariants.{Carrier, Setting}
use Rattle.terms.specs.declared.fault.Refusal.{Refusal}
use Rattle.carrier.specs.declared.fault.CarrierFault.{CarrierFault}
use Rattle.carrier.specs.declared.fault.CarrierFault.TheVariants as carrier
use Rattle.carrier.specs.declared.fault.PlanFault.{PlanFault}
use Rattle.carrier.specs.declared.fault.PlanFault.TheVariants as plan

-- the carrier is full; no frame waits in it
abbrev pub carrier_refusal : CarrierFault → Refusal
carrier_refusal carrier.Full = record { number = 5; layer = Carrier; place = 0 }
carrier_refusal carrier.NoneWaiting = record { number = 6; layer = Carrier; place = 0 }

-- a flip by a mask of zero; a plan that is full
abbrev pub plan_refusal : PlanFault → Refusal
plan_refusal plan.Mask = record { number = 18; layer = Setting; place = 0 }
plan_refusal plan.Full = record { number = 19; layer = Setting; place = 0 }
