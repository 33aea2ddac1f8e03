use Rattle.std.proofs.Common.{sym, ap, ◌∙◌, arith}
use Rattle.tree.proofs.Laws.{kept}
use Rattle.tree.proofs.SoundCalls.{find_exactly, find_sound}
use Rattle.tree.specs.Calls.{find_plan}
use Rattle.index.proofs.Told.{told_by}
use Rattle.index.proofs.find.find.Goals as goal

pub returns : goal.returns
returns g c =
    let m = g.S.Store.meaning c.args.store.now in
    let k = c.args.key.now in
    let e = c.find_record-answer.ensures in
    let a = c.tell.ensures ∙ told_by m.tally c.tally-before.result _ c.tally-before.ensures _ c.find_record-answer.result e in
    record {
      answer = a;
      after = sym (ap (λ o. o.1) e);
      course = kept m (find_plan g.K.Key.kind m.count m.size k);
      unreadable = find_exactly g.K.Key.kind m k;
      sound = λ s. rw a (find_sound g.K.Key.kind g.met.K.Key.lawful m (omega arith) s k);
    }
