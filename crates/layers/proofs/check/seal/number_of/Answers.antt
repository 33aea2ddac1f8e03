use Rattle.std.proofs.Common.{◌≡◌, subst, arith, rules}
use Rattle.std.proofs.lemmas.Fn.{fold_over, slice_gives, fronts}
use Rattle.std.proofs.lemmas.List.Sums.{sum_by_push}
use Rattle.layers.specs.Checks.{check_number}
use Rattle.layers.proofs.check.seal.number_of.Goals as goal

-- after each byte the total is the check number of the bytes so far
pub returns : goal.returns
returns c = subst (λ xs. c.fold.result ≡ check_number xs c.args.block) c.iter.ensures.rest
    (fold_over fronts (λ y. y.now) _ (λ xs n. n ≡ check_number xs c.args.block) _ (λ xs a x b f k d. let more = sum_by_push (λ y. y) xs x.now in search rules)
    _ _ _ _ (slice_gives c.iter.result) (omega arith) c.fold.ensures.ran)
