use Rattle.std.proofs.Common.{◌<◌, ◌≤◌, length, ⊎_elim, arith}
use Rattle.std.proofs.lemmas.Bool.{cases_lt}
use Rattle.std.proofs.lemmas.List.{get_or_past}
use Rattle.store.proofs.plain.PlainStore.new.Goals as goal

-- within its length by the type of the bytes, and past its end by the 0 that stands there
pub invariant_of-result-clause-filled : goal.invariant_of-result-clause-filled
invariant_of-result-clause-filled c k =
    let xs = c.args.bytes.items in
    ⊎_elim (λ (h : k < length xs). omega arith) (λ (h : length xs ≤ k). omega (arith, get_or_past xs k 0 h)) (cases_lt k (length xs))
