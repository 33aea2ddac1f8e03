use Rattle.std.proofs.Common.{◌+◌, ◌/◌, [], length, Err, refl, sym, ap, subst, ◌∙◌, rules}
use Rattle.std.proofs.lemmas.Result.{err_from_is_err_and}
use Rattle.keys.proofs.Comparing.{lt_less}
use Rattle.index.proofs.RangeSteps.{nothing_yet, range_crossed, range_opens}
use Rattle.index.proofs.Steps.{unfit}
use Rattle.index.proofs.range.range_entries.Goals as goal
use Rattle.index.specs.Rangings.{RangeEnd}
use Rattle.store.specs.Meaning.{Meaning}
use Rattle.tree.specs.Plans.{run}
use Rattle.tree.specs.Refusals.{before_entries}
use Rattle.tree.specs.Ranges.{range_plan}

pub returns-in_err-size : goal.returns-in_err-size
returns-in_err-size g c =
    let m = g.S.Store.meaning c.args.store.now in
    let p = err_from_is_err_and c.from_residual.result c.from_residual.ensures.1 in
    let e = c.in_err-size.ensures in
    nothing_yet g.K.Key.kind c.args.buffer.now m _ _ c.from_residual.result (p.1 ∙ ap Err (p.2 ∙ ap before_entries e.0)) (unfit [] _ m m.count m.size refl refl (sym e.1))

pub returns-then-lt : goal.returns-then-lt
returns-then-lt g c =
    let κ = g.K.Key.kind in
    let m = g.S.Store.meaning c.args.store.now in
    nothing_yet κ c.args.buffer.now m _ _ _ (ap Err c.into.ensures)
    (range_crossed κ c.args.lo.now c.args.hi.now (length c.args.buffer.now / (κ.width + 4)) m m.count c.in_ok-size.size refl c.in_ok-size.ensures.0 (rw c.in_ok-size.ensures.0 (sym c.in_ok-size.ensures.1)) (c.if-lt.ensures ∙ lt_less κ g.met.K.Ord.matches_partial_cmp g.met.K.Key.ordered c.args.hi.now c.args.lo.now))

pub returns : goal.returns
returns g c =
    let κ = g.K.Key.kind in
    let m = g.S.Store.meaning c.args.store.now in
    let opens = range_opens κ c.args.lo.now c.args.hi.now (length c.args.buffer.now / (κ.width + 4)) m m.count c.in_ok-size.size refl c.in_ok-size.ensures.0 (rw c.in_ok-size.ensures.0 (sym c.in_ok-size.ensures.1)) (c.if-lt.ensures ∙ lt_less κ g.met.K.Ord.matches_partial_cmp g.met.K.Key.ordered c.args.hi.now c.args.lo.now) in
    let below = subst (RangeEnd κ c.args.buffer.now c.range_below.result c.range_below.new.buffer (g.S.Store.meaning c.range_below.new.reader.store.now)) opens (rw c.new-reader.ensures.store at c.range_below.ensures.ranged) in
    subst (λ (after : Meaning). RangeEnd κ c.args.buffer.now c.range_below.result c.range_below.new.buffer after (run m (range_plan κ m.count m.size c.args.lo.now c.args.hi.now (length c.args.buffer.now / (κ.width + 4))))) (search rules) below
