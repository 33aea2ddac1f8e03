use Rattle.std.proofs.Common.{◌≡◌, ℕ, None, take}
use Rattle.tree.specs.Inserts.{repeated}
use Rattle.update.proofs.batch.Batch.repeated.Given as goal
use Rattle.update.specs.Batches.{stacked}

abbrev pub invariant-loop-i : goal.invariant-loop-i
invariant-loop-i l = (size : ℕ) → repeated (stacked (take l.i l.write-items) size) ≡ None
