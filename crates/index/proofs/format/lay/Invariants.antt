use Rattle.std.proofs.Common.{◌≡◌, length}
use Rattle.tree.specs.Calls.{formatted, laid}
use Rattle.index.proofs.format.lay.Given as goal

abbrev pub invariant-loop-block : goal.invariant-loop-block
invariant-loop-block g l =
    let m = g.S.Store.meaning l.initial.store in
    (g.S.Store.meaning l.store ≡ laid l.block m (formatted g.K.Key.kind m.count m.size l.order)) × (length l.page ≡ m.size)
