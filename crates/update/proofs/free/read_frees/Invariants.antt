use Rattle.std.proofs.Common.{◌≡◌, length}
use Rattle.update.proofs.Frees.{Going}
use Rattle.update.proofs.free.read_frees.Given as goal

abbrev pub invariant-loop-i : goal.invariant-loop-i
invariant-loop-i g l =
    Going g.K.Key.kind (g.S.Store.meaning l.initial.store) l.need l.first (g.S.Store.meaning l.store) l._i l.block l.spare
    × (length l.page ≡ (g.S.Store.meaning l.store).size)
