use Rattle.std.proofs.Common.{◌≡◌, List, [], refl, sym, ap, ◌∙◌}
use Rattle.tree.specs.Inserts.{repeated}
use Rattle.update.proofs.Batches.{repeated_hit, repeated_next}
use Rattle.update.proofs.batch.Batch.repeated.Goals as goal
use Rattle.update.specs.declared.batch.Write.{Write}
use Rattle.update.specs.Batches.{stacked}

pub returns-then-names : goal.returns-then-names
returns-then-names c size =
    let ws = c.deref-write-items.result.now in
    let e : ws ≡ c.args.self.now = cc in
    let f : c.deref.result.now ≡ ws = cc in
    repeated_hit size ws c.loop-i.i (record { block = 0; page = [] }) c.loop-i-test.true (c.loop-i.invariant size) (sym c.if-names.true ∙ (rw f at c.names.ensures)) ∙ ap (λ (x : List Write). repeated (stacked x size)) e

pub loop-i-preserved : goal.loop-i-preserved
loop-i-preserved c size = repeated_next size c.deref-write-items.result.now c.loop-i.i (record { block = 0; page = [] }) c.loop-i-test.true (c.loop-i.invariant size) cc

pub loop-i-init : goal.loop-i-init
unfolding repeated
loop-i-init c size = refl
