-- What each harm does to a frame.
use Rattle.std.specs.Prelude.{◌≡◌, ℕ, Bool, true, if◌then◌else◌, ◌⊎◌, List, length, Some, None, Ok, Err, Option, Result, nat_lt}
use Rattle.std.specs.List.{list_all}
use Rattle.frame.specs.Frame.{FrameM, Grouped, flipped}
use Rattle.frame.specs.Reading.{reading, Broken}
use Rattle.terms.specs.declared.content.Content.{Content}
use Rattle.terms.specs.declared.fault.FrameFault.{FrameFault}
use Rattle.carrier.specs.declared.harm.Harm.{Harm}
use Rattle.carrier.specs.declared.harm.Harm.TheVariants.{Pass, Drop, Flip}

-- the frame, if it reads as good
abbrev pub if_good : Result Content FrameFault → FrameM → Option FrameM
if_good (Ok content) f = Some f
if_good (Err fault) f = None

-- the frame as it goes on, or none if it is lost: a flip within a frame that is broken already loses it, and one outside the frame passes it as it is
abbrev pub harmed : Harm → FrameM → Option FrameM
harmed Pass f = Some f
harmed Drop f = None
harmed (Flip place mask) f = if nat_lt place (length f.bytes) then if_good (reading f) (flipped f place mask) else Some f

-- a harm that a plan takes: the mask of a flip is not zero
abbrev pub harms : Harm → Bool
harms Pass = true
harms Drop = true
harms (Flip place mask) = nat_lt 0 mask

-- a broken frame of as many groups as another
pub record BrokenLike (f g : FrameM) : Type 0 where
  pub groups : ℕ
  pub was : Grouped f groups
  pub like : Grouped g groups
  pub broken : Broken g

-- what a harm that a plan takes may make of a frame: nothing, that frame, or a broken one of as many groups
abbrev pub Worse : FrameM → Option FrameM → Type 0
Worse f None = Unit {0}
Worse f (Some g) = (g ≡ f) ⊎ BrokenLike f g

-- every harm of a plan is one that a plan takes
abbrev pub all_harm : List Harm → Bool
all_harm plan = list_all harms plan
