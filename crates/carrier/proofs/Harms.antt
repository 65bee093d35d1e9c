-- What a flip makes of a frame.
use Rattle.std.proofs.Common.{◌≡◌, ℕ, false, length, Ok, Err, Result, is_err, ap, ◌∙◌, arith}
use Rattle.terms.specs.declared.fault.FrameFault.{FrameFault}
use lib.Bits.{bit_xor}
use Rattle.std.proofs.lemmas.List.{length-set}
use Rattle.frame.specs.Frame.{FrameM, Grouped, byte_at, flipped}
use Rattle.frame.specs.Reading.{Good, packet, reply, Broken, Says}
use Rattle.frame.specs.Reserved.{cleared}
use Rattle.terms.specs.declared.content.Content.{Content}
use Rattle.terms.specs.declared.content.Content.TheVariants as content
use Rattle.carrier.specs.Harm.{BrokenLike}

-- a frame that reads as good is good
pub says_good : (f : FrameM) (r : Result Content FrameFault) → is_err r ≡ false → Says f r → Good f
says_good f (Ok (content.Packet id n)) e (long, is, sealed) = packet id (cleared f.bytes) is sealed
says_good f (Ok (content.Reply r)) e is = reply r is
says_good f (Err fault) e broken = absurd (let z : ◌≡◌ {A = ℕ} 0 1 = cc in omega arith)

-- a flip breaks it, and leaves its groups
pub flip_like : (f g : FrameM) (groups k m : ℕ) → Grouped f groups → g ≡ flipped f k m → Broken g → BrokenLike f g
flip_like f g groups k m is e b = record {
  groups = groups;
  was = is;
  like = record {
    some = is.some;
    few = is.few;
    bytes_long = ap (λ z. length z.bytes) e ∙ length-set f.bytes k (bit_xor (byte_at f k) m) ∙ is.bytes_long;
    marks_long = ap (λ z. length z.marks) e ∙ is.marks_long;
  };
  broken = b;
}
