use Rattle.std.proofs.Common.{◌≡◌, ◌+◌, length, replicate, inl, inr, rules}
use Rattle.std.proofs.lemmas.Slice.{overwrites}
use Rattle.std.proofs.lemmas.List.{places}
use Rattle.std.proofs.lemmas.Bool.{cases_lt}
use Rattle.frame.specs.Reserved.{reserved}
use Rattle.frame.proofs.Placed.{is_cleared}
use Rattle.frame.proofs.room.clear_reserved.Goals as goal

pub returns : goal.returns
unfolding reserved
returns c =
    let xs = c.args.packet.now in
    let first : c.fill.new.self ≡ replicate 2 0 = search rules in
    let last : c.fill-2.new.self ≡ replicate 14 0 = search rules in
    is_cleared xs _ (search (rules, overwrites))
    (λ k h. elim (cases_lt k 2) [
      | inl low ↦ search (rules, places)
      | inr high ↦ elim (cases_lt (k + 14) (length xs)) [
        | inl mid ↦ search (rules, places)
        | inr late ↦ search (rules, places)
      ]
    ])
