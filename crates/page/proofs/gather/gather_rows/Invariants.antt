use Rattle.std.proofs.Common.{◌≡◌, ◌+◌, ◌*◌, ◌≤◌, length, drop}
use Rattle.page.specs.Gathers.{gather_on}
use Rattle.tree.specs.Fields.{u8_at}
use Rattle.page.proofs.Chunks.{Ready, behind, left, many}
use Rattle.page.proofs.gather.gather_rows.Given as goal

abbrev pub invariant-loop-entry : goal.invariant-loop-entry
invariant-loop-entry g l =
    let κ = g.K.Key.kind in
    let end = behind κ (u8_at 1 l.node.page.now) (drop 8 l.node.page.now) in
    let s = l.entry-iterator in
    record {
      same : gather_on κ l.lo l.hi (u8_at 1 l.node.page.now) (drop 8 l.node.page.now) l.taken l.initial.buffer ≡ gather_on κ l.lo l.hi (many κ s) (left end s) l.number l.buffer;
      ready : Ready κ s;
      room : l.number * (κ.width + 4) ≤ length l.buffer;
    }
