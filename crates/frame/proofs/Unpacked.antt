-- Unpacking a sealed packet gives the packet back.
use Rattle.std.proofs.Common.{◌≡◌, ℕ, ◌≤◌, List, ◌++◌, length, drop, Ok, Err, sym, refl, ap, ◌∙◌, ap₂, arith}
use Rattle.std.proofs.lemmas.Bool.{cond_above}
use Rattle.frame.specs.Form.{sealed}
use Rattle.frame.specs.Packet.{IsPacket}
use Rattle.frame.specs.Reserved.{cleared}
use Rattle.frame.specs.Unpacking.{copying, copied_into, unpacking_read, unpacked_read, Unpacks}
use Rattle.frame.proofs.Protocols.{sealed_long, sealed_cleared}
use Rattle.frame.proofs.Readings.{reads_sealed}

pub unpacks_sealed : (id : ℕ) (p : List ℕ) → IsPacket p → Unpacks (sealed id p) id p
unpacks_sealed id p is buffer fits =
    let f = sealed id p in
    let n : length f.bytes ≡ length p = sealed_long id p is in
    let room : length f.bytes ≤ length buffer = omega arith in
    let copy : copying f (length buffer) ≡ Ok (length p) = sym (ap Ok (sym n) ∙ cond_above (length buffer) (length f.bytes) (Err (record { needed = length f.bytes })) (Ok (length f.bytes)) _ room refl) in
    let over : copied_into f buffer ≡ p ++ drop (length p) buffer =
    sym (cond_above (length buffer) (length f.bytes) buffer (cleared f.bytes ++ drop (length f.bytes) buffer) _ room refl)
    ∙ ap₂ (λ (xs : List ℕ) m. xs ++ drop m buffer) (sealed_cleared id p is) n in (
      ap₂ unpacking_read (reads_sealed id p is) copy,
      ap₂ (λ r (xs : List ℕ). unpacked_read r buffer xs) (reads_sealed id p is) over,
    )
