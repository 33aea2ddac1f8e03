use Rattle.std.proofs.Common.{◌≡◌, ◌<◌, length, take, reverse, subst, sym, ap, ◌∙◌}
use Rattle.std.proofs.lemmas.Iterator.Adapters.{YieldsList-from_rev_slice}
use Rattle.std.proofs.lemmas.Iterator.Consumers.{YieldsList-turn}
use Rattle.std.proofs.lemmas.List.{get_or-map, length-map, length_push}
use Rattle.update.proofs.Batches.{left_next}
use Rattle.update.proofs.batch.Batch.flush.Goals as goal
use Rattle.update.specs.Batches.{cut, stacked}

pub loop-write-preserved : goal.loop-write-preserved
loop-write-preserved g c =
    let m = g.S.Store.meaning c.args.store.now in
    let ws = c.args.self.now in
    let w = c.in-Some.write in
    let n = length c.loop-write.yielded in
    let turn = YieldsList-turn (YieldsList-from_rev_slice ws cc) c.loop-write.yielded _ c.loop-write.yielded_by _ _ w c.in-Some.is c.next.ensures.steps in
    let l : n < length (stacked ws m.size) = subst (λ k. n < k) (sym (length-map (reverse ws) (cut m.size))) turn.0 in
    let e : c.size-size.result ≡ m.size = c.size-size.ensures in
    let v : c.front.result.now ≡ take m.size w.now.page = c.front.ensures.value ∙ ap (λ k. take k w.now.page) e in
    rw (length_push c.loop-write.yielded w)
    (left_next {all = stacked ws m.size} {r = c.write.result} {w = cut m.size w.now} l
    (get_or-map (cut m.size) (reverse ws) n w.now (cut m.size w.now) turn.0 ∙ ap (cut m.size) (sym turn.1)) c.loop-write.invariant
    (ap length (sym v) ∙ (c.front.ensures.len ∙ e)) (rw (← v) c.write.ensures))
