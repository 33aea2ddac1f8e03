use Rattle.std.proofs.Common.{[], Err, ap, ◌∙◌, arith}
use Rattle.std.proofs.lemmas.Result.{err_from_is_err_and}
use Rattle.index.proofs.RangeSteps.{first_reached, leaf_there, not_reached, nothing_yet}
use Rattle.index.proofs.Steps.{head_room, head_stop, leaf_room}
use Rattle.index.proofs.range.range_below.Goals as goal
use Rattle.store.specs.Meaning.{Meaning}

pub returns-in_err-head : goal.returns-in_err-head
returns-in_err-head g c =
    let e = c.in_err-head.ensures in
    let p = err_from_is_err_and c.from_residual.result c.from_residual.ensures.1 in
    record {
      ranged = nothing_yet g.K.Key.kind c.args.buffer.now (g.S.Store.meaning c.head.new.self.store.now) c.in_err-head.field-0.0 _ c.from_residual.result (p.1 ∙ ap Err p.2)
          (head_stop g.K.Key.kind (g.S.Store.meaning c.args.reader.now.store.now) (g.S.Store.meaning c.head.new.self.store.now) e.after [] _ c.in_err-head.field-0.0 e.answer);
      same_store = e.same_store;
      same_page = e.same_page;
    }

pub reach_leaf-requires : goal.reach_leaf-requires
reach_leaf-requires g c =
    let e = c.in_ok-head.ensures in
    (head_room g.K.Key.kind (g.S.Store.meaning c.args.reader.now.store.now) (g.S.Store.meaning c.head.new.self.store.now) e.after c.in_ok-head.head c.requires.wide e.answer).1

pub returns-in_err-reach_leaf : goal.returns-in_err-reach_leaf
returns-in_err-reach_leaf g c =
    let e = c.in_ok-head.ensures in
    let w = c.in_err-reach_leaf.ensures in
    let p = err_from_is_err_and c.from_residual-in_err-reach_leaf.result c.from_residual-in_err-reach_leaf.ensures.1 in
    record {
      ranged = not_reached g.K.Key.kind c.args.lo.now c.args.hi.now c.args.buffer.now (g.S.Store.meaning c.args.reader.now.store.now) (g.S.Store.meaning c.head.new.self.store.now) e.after c.in_ok-head.head e.answer
          (g.S.Store.meaning c.reach_leaf.new.self.store.now) c.reach_leaf.new.self.page.now c.in_err-reach_leaf.field-0.0 c.from_residual-in_err-reach_leaf.result (p.1 ∙ ap Err p.2) (rw e.order at w.reached);
      same_store = w.same_store ∙ e.same_store;
      same_page = w.same_page ∙ e.same_page;
    }

pub follow_leaves-requires : goal.follow_leaves-requires
follow_leaves-requires g c =
    let e = c.in_ok-head.ensures in
    let n = ap (λ (x : Meaning). x.count) e.after in
    let w = c.in_ok-reach_leaf.ensures in
    (leaf_room g.K.Key.kind _ c.head.new.self.order _ c.reach_leaf.new.self.page.now w.reached.0 w.reached.2 c.head.new.self.room (c.reach_leaf.new.self.fits ∙ w.size), omega (arith, w.count))

pub returns : goal.returns
returns g c =
    let κ = g.K.Key.kind in
    let e = c.in_ok-head.ensures in
    let m' = g.S.Store.meaning c.head.new.self.store.now in
    let after = g.S.Store.meaning c.reach_leaf.new.self.store.now in
    let w = c.in_ok-reach_leaf.ensures in
    let o = w.order ∙ e.order in
    let r = rw e.order at w.reached in
    let f = c.follow_leaves.ensures in
    record {
      ranged = first_reached κ c.args.lo.now c.args.hi.now c.args.buffer.now (g.S.Store.meaning c.args.reader.now.store.now) m' e.after c.in_ok-head.head e.answer
          after c.reach_leaf.new.self.page.now r w.count c.follow_leaves.result c.follow_leaves.new.buffer (g.S.Store.meaning c.follow_leaves.new.reader.store.now)
          ((rw o at f.followed) r.0 (leaf_there κ m'.count after.count c.in_ok-head.head.order c.reach_leaf.new.self.page.now r.0 w.count r.2));
      same_store = f.same_store ∙ (w.same_store ∙ e.same_store);
      same_page = f.same_page ∙ (w.same_page ∙ e.same_page);
    }
