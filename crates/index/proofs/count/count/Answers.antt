use Rattle.std.proofs.Common.{sym, ap, ◌∙◌, arith}
use Rattle.tree.proofs.Laws.{kept}
use Rattle.tree.proofs.SoundCalls.{count_exactly, count_sound}
use Rattle.tree.specs.Calls.{count_plan}
use Rattle.index.proofs.Told.{told_by}
use Rattle.index.proofs.count.count.Goals as goal

pub returns : goal.returns
returns g c =
    let m = g.S.Store.meaning c.args.store.now in
    let e = c.count_keys-answer.ensures in
    let a = c.tell.ensures ∙ told_by m.tally c.tally-before.result _ c.tally-before.ensures _ c.count_keys-answer.result e in
    record {
      answer = a;
      after = sym (ap (λ o. o.1) e);
      course = kept m (count_plan g.K.Key.kind m.count m.size);
      unreadable = count_exactly g.K.Key.kind m;
      sound = λ s. rw a (count_sound g.K.Key.kind m (omega arith) s);
    }
