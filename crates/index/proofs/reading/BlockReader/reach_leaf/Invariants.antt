use Rattle.std.proofs.Common.{◌≡◌, ◌-◌, true}
use Rattle.tree.specs.Plans.{run}
use Rattle.index.specs.Leaves.{leaf_from}
use Rattle.index.proofs.reading.BlockReader.reach_leaf.Given as goal

abbrev pub invariant-loop-level : goal.invariant-loop-level
invariant-loop-level g l =
    let m₀ = g.S.Store.meaning l.initial.self.store.now in
    let m = g.S.Store.meaning l.self.store.now in
    let κ = g.K.Key.kind in
    (run m₀ (leaf_from κ m₀.count l.initial.self.order l.key (l.levels - 1) true l.root) ≡ run m (leaf_from κ m.count l.initial.self.order l.key (l.levels - l._level) l.top l.block))
    × (m.size ≡ m₀.size)
    × (m.count ≡ m₀.count)
    × (l.self.order ≡ l.initial.self.order)
    × (l.self.store.ghost_name ≡ l.initial.self.store.ghost_name)
    × (l.self.page.ghost_name ≡ l.initial.self.page.ghost_name)
