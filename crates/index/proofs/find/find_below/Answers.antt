use Rattle.std.proofs.Common.{◌-◌, ◌∙◌}
use Rattle.index.proofs.Steps.{find_reached, find_step, find_stopped, head_room, head_stop, leaf_room}
use Rattle.index.proofs.find.find_below.Goals as goal
use Rattle.std.proofs.lemmas.Result.{err_from_is_err_and}

pub returns-in_err-head : goal.returns-in_err-head
returns-in_err-head g c =
    let e = c.in_err-head.ensures in
    let p = err_from_is_err_and c.from_residual.result c.from_residual.ensures.1 in
    record {
      found = head_stop g.K.Key.kind (g.S.Store.meaning c.args.reader.now.store.now) (g.S.Store.meaning c.head.new.self.store.now) e.after tt _ c.in_err-head.field-0.0 e.answer ∙ rw (p.1, p.2);
      same_store = e.same_store;
      same_page = e.same_page;
    }

pub reach_leaf-requires : goal.reach_leaf-requires
reach_leaf-requires g c =
    let e = c.in_ok-head.ensures in
    (head_room g.K.Key.kind (g.S.Store.meaning c.args.reader.now.store.now) (g.S.Store.meaning c.head.new.self.store.now) e.after c.in_ok-head.head c.requires.wide e.answer).1

pub returns-in_err-reach_leaf : goal.returns-in_err-reach_leaf
returns-in_err-reach_leaf g c =
    let e = c.in_ok-head.ensures in
    let m = g.S.Store.meaning c.args.reader.now.store.now in
    let m' = g.S.Store.meaning c.head.new.self.store.now in
    let d = c.in_ok-head.head in
    let x = c.in_err-reach_leaf.field-0.0 in
    let w = c.in_err-reach_leaf.ensures in
    let p = err_from_is_err_and c.from_residual-in_err-reach_leaf.result c.from_residual-in_err-reach_leaf.ensures.1 in
    record {
      found = find_step g.K.Key.kind m m' e.after c.args.key.now d e.answer
          ∙ (find_stopped g.K.Key.kind g.met.K.Key.lawful m' (g.S.Store.meaning c.reach_leaf.new.self.store.now) d.order c.args.key.now (d.levels - 1) d.root c.reach_leaf.new.self.page.now x (rw e.order at w.reached)
          ∙ rw (p.1, p.2));
      same_store = w.same_store ∙ e.same_store;
      same_page = w.same_page ∙ e.same_page;
    }

pub of-requires : goal.of-requires
of-requires g c =
    let w = c.in_ok-reach_leaf.ensures in
    rw c.page.ensures (leaf_room g.K.Key.kind _ c.head.new.self.order _ c.reach_leaf.new.self.page.now w.reached.0 w.reached.2 c.head.new.self.room (c.reach_leaf.new.self.fits ∙ w.size))

pub returns : goal.returns
returns g c =
    let e = c.in_ok-head.ensures in
    let m = g.S.Store.meaning c.args.reader.now.store.now in
    let m' = g.S.Store.meaning c.head.new.self.store.now in
    let d = c.in_ok-head.head in
    let w = c.in_ok-reach_leaf.ensures in
    record {
      found = find_step g.K.Key.kind m m' e.after c.args.key.now d e.answer
          ∙ find_reached g.K.Key.kind g.met.K.Key.lawful m' (g.S.Store.meaning c.reach_leaf.new.self.store.now) d.order c.args.key.now (d.levels - 1) d.root c.reach_leaf.new.self.page.now (rw e.order at w.reached) c.record.result (rw (c.of.ensures ∙ c.page.ensures) at c.record.ensures);
      same_store = w.same_store ∙ e.same_store;
      same_page = w.same_page ∙ e.same_page;
    }
