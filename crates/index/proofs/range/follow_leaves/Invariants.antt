use Rattle.std.proofs.Common.{◌≡◌, ◌+◌, ◌-◌, ◌*◌, ◌/◌, ◌≤◌, [], length, get_or}
use Rattle.index.proofs.Ranging.{Going}
use Rattle.index.proofs.range.follow_leaves.Given as goal
use Rattle.index.specs.Leaves.{Leaf}
use Rattle.tree.specs.Nodes.{Node}
use Rattle.tree.specs.Plans.{run}
use Rattle.tree.specs.Ranges.{chase, follow}

abbrev pub invariant-leaves : goal.invariant-leaves
invariant-leaves g l =
    let m₀ = g.S.Store.meaning l.initial.reader.store.now in
    let m = g.S.Store.meaning l.reader.store.now in
    let κ = g.K.Key.kind in
    (8 + get_or l.reader.page.now 1 0 * (κ.width + 4) ≤ length l.reader.page.now)
    × (l.taken * (κ.width + 4) ≤ length l.buffer)
    × (m.count ≡ m₀.count)
    × (l.reader.order ≡ l.initial.reader.order)
    × (l.reader.store.ghost_name ≡ l.initial.reader.store.ghost_name)
    × (l.reader.page.ghost_name ≡ l.initial.reader.page.ghost_name)
    × ((d : Node _) → Leaf κ m₀.count l.initial.reader.order l.initial.reader.page.now d
    → Going κ l.lo l.hi l.initial.reader.order l.initial.buffer
    (run m₀ (follow κ l.lo l.hi (length l.initial.buffer / (κ.width + 4)) [] d (chase κ m₀.count l.initial.reader.order l.lo l.hi (m₀.count - 2))))
    m₀.count m l.reader.page.now l.buffer l.taken l.fuel)

abbrev pub decreases-leaves : goal.decreases-leaves
decreases-leaves g l = l.fuel
