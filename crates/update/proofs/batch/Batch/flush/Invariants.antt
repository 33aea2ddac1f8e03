use Rattle.std.proofs.Common.{length}
use Rattle.update.proofs.Batches.{Left}
use Rattle.update.proofs.batch.Batch.flush.Given as goal
use Rattle.update.specs.Batches.{stacked}

abbrev pub invariant-loop-write : goal.invariant-loop-write
invariant-loop-write g l =
    let m = g.S.Store.meaning l.initial.store in
    Left m (stacked l.self m.size) (length l.yielded) (g.S.Store.meaning l.store)
