-- What a carrier may make of a frame that is put.
use Rattle.std.specs.Prelude.{◌≡◌, ℕ, ◌/◌, Bool, if◌then◌else◌, ◌&&◌, ◌==◌, List, [], ◌∷◌, ◌++◌, length, Some, None, Ok, Err, Option, Result}
use Rattle.std.specs.List.{list_all}
use Rattle.frame.specs.Frame.{FrameM, Grouped}
use Rattle.frame.specs.Packet.{one_of_five}
use Rattle.frame.specs.Reading.{Broken}
use Rattle.carrier.specs.declared.fault.CarrierFault.{CarrierFault}
use Rattle.carrier.specs.declared.fault.CarrierFault.TheVariants.{Full}

-- whether a frame has one to five whole groups and a mark to every sixteen bytes
abbrev pub is_frame : FrameM → Bool
is_frame f = one_of_five (length f.bytes) && length f.marks == length f.bytes / 16

-- whether each of them has
abbrev pub all_frames : List FrameM → Bool
all_frames fs = list_all is_frame fs

-- the number of groups of a frame
abbrev pub groups_of : FrameM → ℕ
groups_of f = length f.bytes / 128

-- the answer to a put, by whether the carrier is full
abbrev pub putting : Bool → Result (Unit {0}) CarrierFault
putting full = if full then Err Full else Ok tt

-- what waits after the frame f was put where the frames before waited: at the end there is that frame, or a broken one, or nothing
pub data Added (before : List FrameM) (f : FrameM) (after : List FrameM) : Type 0 where
  whole : after ≡ before ++ (f ∷ []) → Added before f after
  broken : (g : FrameM) (groups : ℕ) → Grouped g groups → Broken g → after ≡ before ++ (g ∷ []) → Added before f after
  lost : after ≡ before → Added before f after

-- what a take answers: the oldest frame, which is removed; or none exactly where none waits, and then nothing changes
abbrev pub Taken : {S : Type 0} → (S → List FrameM) → S → Option FrameM → S → Type 0
Taken waiting old None new = (waiting old ≡ []) × (new ≡ old)
Taken waiting old (Some f) new = waiting old ≡ f ∷ waiting new
