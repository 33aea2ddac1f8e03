use Rattle.std.proofs.Common.{◌≡◌}
use Rattle.page.specs.Rows.{kid_at}
use Rattle.page.proofs.Chunks.{Ready, behind, left, many}
use Rattle.page.proofs.rows.Entries.child.Given as goal

abbrev pub invariant-loop-entry : goal.invariant-loop-entry
invariant-loop-entry g l =
    let κ = g.K.Key.kind in
    let end = behind κ l.self.count l.self.rows.now in
    let s = l.entry-iterator in
    record { same : kid_at κ l.key l.first l.self.count l.self.rows.now ≡ kid_at κ l.key l.child (many κ s) (left end s); ready : Ready κ s }
