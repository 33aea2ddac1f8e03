use Rattle.std.proofs.Common.{rules}
use Rattle.std.proofs.lemmas.Result.{err_from_is_err_and}
use Rattle.index.proofs.Steps.{unfit}
use Rattle.index.proofs.count.count_keys.Goals as goal

pub returns-in_err-size : goal.returns-in_err-size
returns-in_err-size g c = let p = err_from_is_err_and c.from_residual.result c.from_residual.ensures.1 in search (rules, unfit)
