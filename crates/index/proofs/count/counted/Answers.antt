use Rattle.std.proofs.Common.{◌∙◌}
use Rattle.std.proofs.lemmas.Result.{err_from_is_err_and}
use Rattle.index.proofs.Steps.{count_step, head_stop}
use Rattle.index.proofs.count.counted.Goals as goal

pub returns-in_err-head : goal.returns-in_err-head
returns-in_err-head g c =
    let e = c.in_err-head.ensures in
    let p = err_from_is_err_and c.from_residual.result c.from_residual.ensures.1 in
    record {
      counted = head_stop g.K.Key.kind (g.S.Store.meaning c.args.reader.now.store.now) (g.S.Store.meaning c.head.new.self.store.now) e.after tt _ c.in_err-head.field-0.0 e.answer ∙ rw (p.1, p.2);
      same_store = e.same_store;
      same_page = e.same_page;
    }

pub returns : goal.returns
returns g c =
    let e = c.in_ok-head.ensures in
    record {
      counted = count_step g.K.Key.kind (g.S.Store.meaning c.args.reader.now.store.now) (g.S.Store.meaning c.head.new.self.store.now) e.after c.in_ok-head.head e.answer;
      same_store = e.same_store;
      same_page = e.same_page;
    }
