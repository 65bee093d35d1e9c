use Rattle.std.proofs.Common.{◌++◌, length, ap₂}
use Rattle.std.proofs.lemmas.List.{drop-replicate}
use Rattle.frame.proofs.room.in_room.Goals as goal

pub returns : goal.returns
returns g c = ap₂ (λ xs ys. xs ++ ys) c.copy_from_slice.ensures.after (drop-replicate (length c.args.items.now) g.row.N c.args.blank)
