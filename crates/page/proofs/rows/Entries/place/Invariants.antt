use Rattle.std.proofs.Common.{◌≡◌, ◌+◌}
use Rattle.std.specs.Iterator.Adapters.{enumerate_count, enumerate_source}
use Rattle.page.specs.Rows.{place_at}
use Rattle.page.proofs.Chunks.{Ready, behind, left, many}
use Rattle.page.proofs.rows.Entries.place.Given as goal

abbrev pub invariant-loop-i : goal.invariant-loop-i
invariant-loop-i g l =
    let κ = g.K.Key.kind in
    let end = behind κ l.self.count l.self.rows.now in
    let s = enumerate_source l.i-iterator in
    let i = enumerate_count l.i-iterator in
    record {
      same : place_at κ l.key 0 l.self.count l.self.rows.now ≡ place_at κ l.key i (many κ s) (left end s);
      ready : Ready κ s;
      all : i + many κ s ≡ l.self.count;
    }
