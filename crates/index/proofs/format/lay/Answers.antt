use Rattle.std.proofs.Common.{◌≡◌, ℕ, length, ◌∙◌}
use Rattle.tree.specs.Calls.{formatted}
use Rattle.index.proofs.Laying.{laid_next}
use Rattle.index.proofs.format.lay.Goals as goal

pub loop-block-preserved : goal.loop-block-preserved
loop-block-preserved g c =
    let m = g.S.Store.meaning c.args.store.now in
    let long : length c.loop-block.page ≡ m.size = c.loop-block.invariant.1 in
    let same : length c.fill_block.new.page ≡ m.size = c.fill_block.auto.page ∙ long in (
      laid_next c.loop-block.block c.count-count.result (length c.loop-block.page) m (g.S.Store.meaning c.loop-block.store) (g.S.Store.meaning c.write.new.self)
          (λ (n l i : ℕ). formatted g.K.Key.kind n l c.args.order i) c.fill_block.new.page c.write.result c.loop-block.invariant.0 c.count-count.ensures long c.loop-block-test.true c.fill_block.ensures same c.write.ensures,
      same,
    )
