use Rattle.std.proofs.Common.{◌+◌, ◌/◌, length, sym, ap, ◌∙◌}
use Rattle.tree.proofs.Laws.{kept}
use Rattle.tree.proofs.Ranges.{range_exactly}
use Rattle.tree.specs.Ranges.{range_plan}
use Rattle.index.proofs.Told.{range_left, range_told_by}
use Rattle.index.proofs.range.range.Goals as goal

pub returns : goal.returns
returns g c =
    let κ = g.K.Key.kind in
    let m = g.S.Store.meaning c.args.store.now in
    let most = length c.args.buffer.now / (κ.width + 4) in
    let e = c.range_entries-answer.ensures in
    record {
      answer = c.tell.ensures ∙ range_told_by m.tally c.tally-before.result _ c.tally-before.ensures κ c.args.buffer.now c.range_entries-answer.result _ _ e;
      buffer = range_left κ c.args.buffer.now c.range_entries-answer.result _ _ _ e;
      after = sym (ap (λ o. o.1) e.came);
      course = kept m (range_plan κ m.count m.size c.args.lo.now c.args.hi.now most);
      unreadable = range_exactly κ m c.args.lo.now c.args.hi.now most;
    }
