use Rattle.std.proofs.Common.{◌≡◌, ◌/◌, ◌%◌, ◌^◌, fold, refl, ◌∙◌, rules}
use Rattle.std.proofs.lemmas.Fn.{fold_same}
use Rattle.std.proofs.lemmas.List.Sums.{fold_push}
use Rattle.crc.specs.Check.{bit_step, byte_step}
use Rattle.crc.proofs.Steps.{bits_fold}
use Rattle.crc.proofs.polynomial.Polynomial.byte_step.Goals as goal

pub returns : goal.returns
unfolding byte_step
returns c =
    let by = c.args.self in
    let byte = c.args.byte in
    let ran = c.fold.ensures.ran in
    fold_same _ (λ ys a. a ≡ fold (λ t k. bit_step by.width by.terms t (byte / 2 ^ k % 2)) c.args.state ys) _ (λ ys a x b f' j k. search (rules, fold_push)) ran.0 _ _ ran.1 refl ran.3
    ∙ bits_fold by.width by.terms byte 8 c.args.state ran.0 c.rev.result (search rules) (search rules) ran.2
