use Rattle.std.proofs.Common.{◌≡◌, ℕ, ◌+◌, ◌-◌, false, Ok, Err, Result, sym, refl, ap, ◌∙◌, subst, arith}
use Rattle.index.proofs.Steps.{inner_step, inner_stop, leaf_reached, roomy}
use Rattle.index.proofs.reading.BlockReader.reach_leaf.Goals as goal
use Rattle.index.specs.Leaves.{Reached, leaf_from}
use Rattle.std.proofs.lemmas.Result.{err_from_is_err_and}
use Rattle.store.specs.Meaning.{Meaning}
use Rattle.tree.specs.declared.refusal.Refusal.{Refusal}
use Rattle.tree.specs.Plans.{run}

pub returns-in_err-node : goal.returns-in_err-node
returns-in_err-node g c =
    let v = c.loop-level.invariant in
    let n = c.in_err-node.ensures in
    let e = rw v.3 at n.read in
    let x = c.in_err-node.field-0.0 in
    let p = err_from_is_err_and c.from_residual.result c.from_residual.ensures.1 in
    let m = g.S.Store.meaning c.args.self.now.store.now in
    let stop : Reached g.K.Key.kind m c.args.self.now.order c.args.key.now (c.args.levels - 1) c.args.root (Err x) c.node.new.self.page.now (g.S.Store.meaning c.node.new.self.store.now) =
    v.0
    ∙ inner_stop g.K.Key.kind c.args.key.now (g.S.Store.meaning c.loop-level.self.store.now) c.loop-level.top c.args.self.now.order c.loop-level.block
    c.loop-level.self.page.now c.node.new.self.page.now (g.S.Store.meaning c.node.new.self.store.now) (Err x) (c.args.levels - c.loop-level._level)
    e (omega arith) x refl in
    record {
      reached = subst (λ (r : Result Unit Refusal). Reached g.K.Key.kind m c.args.self.now.order c.args.key.now (c.args.levels - 1) c.args.root r c.node.new.self.page.now (g.S.Store.meaning c.node.new.self.store.now)) (sym (p.1 ∙ ap {B = Result Unit Refusal} Err p.2)) stop;
      size = ap (λ (x : Meaning). x.size) e.tallies ∙ v.1;
      count = ap (λ (x : Meaning). x.count) e.tallies ∙ v.2;
      order = n.order ∙ v.3;
      same_store = n.same_store ∙ v.4;
      same_page = n.same_page ∙ v.5;
    }

pub of-requires : goal.of-requires
of-requires g c =
    let e = c.in_ok-node.ensures.read in
    let s = ap (λ (x : Meaning). x.size) e.tallies in
    rw c.page.ensures (roomy g.K.Key.kind false (g.S.Store.meaning c.loop-level.self.store.now) c.loop-level.top c.loop-level.self.order c.loop-level.block
    c.loop-level.self.page.now c.node.new.self.page.now (g.S.Store.meaning c.node.new.self.store.now) (Ok tt)
    e (g.K.Key.kind.width + 4) c.loop-level.self.room (c.node.new.self.fits ∙ s) refl)

pub loop-level-preserved : goal.loop-level-preserved
loop-level-preserved g c =
    let v = c.loop-level.invariant in
    let n = c.in_ok-node.ensures in
    let e = rw v.3 at n.read in
    let d : c.args.levels - c.loop-level._level - 1 ≡ c.args.levels - (c.loop-level._level + 1) = omega arith in (
      v.0
          ∙ (inner_step g.K.Key.kind c.args.key.now (g.S.Store.meaning c.loop-level.self.store.now) c.loop-level.top c.args.self.now.order c.loop-level.block
          c.loop-level.self.page.now c.node.new.self.page.now (g.S.Store.meaning c.node.new.self.store.now) (Ok tt) (c.args.levels - c.loop-level._level)
          e (omega arith) refl c.child-block.result (rw (c.of.ensures ∙ c.page.ensures) at c.child-block.ensures)
          ∙ ap (λ (h : ℕ). run (g.S.Store.meaning c.node.new.self.store.now) (leaf_from g.K.Key.kind (g.S.Store.meaning c.node.new.self.store.now).count c.args.self.now.order c.args.key.now h false c.child-block.result)) d),
      ap (λ (x : Meaning). x.size) e.tallies ∙ v.1,
      ap (λ (x : Meaning). x.count) e.tallies ∙ v.2,
      n.order ∙ v.3,
      n.same_store ∙ v.4,
      n.same_page ∙ v.5,
    )

pub returns : goal.returns
returns g c =
    let v = c.loop-level.invariant in
    let n = c.node-2.ensures in
    let e = rw v.3 at n.read in
    record {
      reached = leaf_reached g.K.Key.kind c.args.key.now (g.S.Store.meaning c.loop-level.self.store.now) c.loop-level.top c.args.self.now.order c.loop-level.block
          c.loop-level.self.page.now c.node-2.new.self.page.now (g.S.Store.meaning c.node-2.new.self.store.now) c.node-2.result (c.args.levels - c.loop-level._level)
          (g.S.Store.meaning c.args.self.now.store.now) (c.args.levels - 1) c.args.root v.0 v.2 e (omega arith);
      size = ap (λ (x : Meaning). x.size) e.tallies ∙ v.1;
      count = ap (λ (x : Meaning). x.count) e.tallies ∙ v.2;
      order = n.order ∙ v.3;
      same_store = n.same_store ∙ v.4;
      same_page = n.same_page ∙ v.5;
    }
