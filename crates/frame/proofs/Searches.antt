-- The searches along a frame find the lowest wrong number.
use Rattle.std.proofs.Common.{◌≡◌, ℕ, ◌+◌, ◌-◌, ◌≤◌, Bool, not, ◌||◌, eqb, List, map, length, get_or, drop, position, refl, ap, ◌∙◌, ap₂, arith}
use Rattle.std.specs.List.{enumerate_from, range_with_len, zip}
use Rattle.std.proofs.lemmas.Iterator.Adapters.{position_from-zero}
use Rattle.frame.specs.Form.{is_synced, form_mark, allows}
use Rattle.frame.specs.Frame.{FrameM}
use Rattle.frame.specs.Packet.{clear_at, lowest_reserved}
use Rattle.frame.specs.Reading.{sync_right, mark_right, byte_right, unit_right, lowest_sync, lowest_mark, lowest_byte, lowest_unit}
use Rattle.frame.specs.Reserved.{reserved}
use Rattle.frame.specs.Units.{unit_check}
use Rattle.frame.specs.declared.frame.Kind.{Kind}
use Rattle.frame.specs.Lowest.{lowest_wrong}
use Rattle.std.proofs.lemmas.List.{length-drop, get_or-drop}
use Rattle.std.proofs.lemmas.List.FromFn.{length-map-range_with_len, get_or-map-range_with_len}
use Rattle.std.proofs.lemmas.Slice.Zip.{get_or-zip, length-zip}
use Rattle.frame.proofs.Lowest.{searched, searched_numbered}
use Rattle.terms.specs.Mark.{mark_number}
use Rattle.terms.specs.declared.mark.Mark.{Mark}
use Rattle.terms.specs.declared.mark.Mark.TheVariants.{Zero, Data, Control, Three}

synced : (m : Mark) → not (is_synced m) ≡ not (eqb (mark_number m) 1 || eqb (mark_number m) 2)
synced Zero = refl
synced Data = refl
synced Control = refl
synced Three = refl

pub sync_found : (f : FrameM) → position (λ m. not (is_synced m)) f.marks ≡ lowest_sync f
sync_found f = position_from-zero (λ m. not (is_synced m)) f.marks ∙ searched (sync_right f) (λ m. not (is_synced m)) Zero f.marks (λ k h. synced (get_or f.marks k Zero))

pub mark_found : (kind : Kind) (f : FrameM)
    → position (λ (p : ℕ × Mark). not (eqb (mark_number p.1) (mark_number (form_mark kind (length f.marks) p.0)))) (enumerate_from 0 f.marks) ≡ lowest_mark kind f
mark_found kind f =
    position_from-zero (λ (p : ℕ × Mark). not (eqb (mark_number p.1) (mark_number (form_mark kind (length f.marks) p.0)))) (enumerate_from 0 f.marks)
    ∙ searched_numbered (mark_right kind f) (λ p. not (eqb (mark_number p.1) (mark_number (form_mark kind (length f.marks) p.0)))) Zero f.marks (λ k h. refl)

pub byte_found : (kind : Kind) (f : FrameM) → position (λ (p : ℕ × ℕ). not (allows kind (length f.bytes) p.0 p.1)) (enumerate_from 0 f.bytes) ≡ lowest_byte kind f
byte_found kind f =
    position_from-zero (λ (p : ℕ × ℕ). not (allows kind (length f.bytes) p.0 p.1)) (enumerate_from 0 f.bytes)
    ∙ searched_numbered (byte_right kind f) (λ p. not (allows kind (length f.bytes) p.0 p.1)) 0 f.bytes (λ k h. refl)

pub unit_found : (f : FrameM) (bs checks : List ℕ) → bs ≡ f.bytes → 14 ≤ length bs → checks ≡ map (unit_check bs) (range_with_len 0 8)
    → position (λ (p : ℕ × ℕ). not (eqb p.0 p.1)) (zip (drop (length bs - 14) bs) checks) ≡ lowest_unit f
unit_found f bs checks e some is =
    let test : ℕ × ℕ → Bool = λ p. not (eqb p.0 p.1) in
    let tail = drop (length bs - 14) bs in
    let long : length checks ≡ 8 = ap length is ∙ length-map-range_with_len (unit_check bs) 0 8 in
    let tail_long : length tail ≡ 14 = length-drop (length bs - 14) bs ∙ omega arith in
    let pairs : length (zip tail checks) ≡ 8 = length-zip tail checks ∙ omega arith in
    position_from-zero test (zip tail checks)
    ∙ searched (unit_right f) test (0, 0) (zip tail checks)
    (λ k h.
    ap test (get_or-zip tail checks k (0, 0) (omega arith) (omega arith))
    ∙ ap₂ (λ a b. not (eqb a b))
    (get_or-drop (length bs - 14) bs k 0 ∙ ap (λ (l : List ℕ). get_or l (length l - 14 + k) 0) e)
    (ap (λ (l : List ℕ). get_or l k 0) is ∙ get_or-map-range_with_len (unit_check bs) 0 8 k k 0 (omega arith) (omega arith) ∙ ap (λ (l : List ℕ). unit_check l k) e))
    ∙ ap (lowest_wrong (unit_right f)) pairs

pub reserved_found : (xs : List ℕ) → position (λ (p : ℕ × ℕ). not (not (reserved (length xs) p.0) || eqb p.1 0)) (enumerate_from 0 xs) ≡ lowest_reserved xs
reserved_found xs =
    position_from-zero (λ (p : ℕ × ℕ). not (not (reserved (length xs) p.0) || eqb p.1 0)) (enumerate_from 0 xs)
    ∙ searched_numbered (clear_at xs) (λ p. not (not (reserved (length xs) p.0) || eqb p.1 0)) 0 xs (λ k h. refl)
