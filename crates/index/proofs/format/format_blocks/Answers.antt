use Rattle.std.proofs.Common.{refl, sym, ap, ◌∙◌, rules}
use Rattle.std.proofs.lemmas.Result.{err_from_is_err_and}
use Rattle.index.proofs.Laying.{all_laid, unfit_order, unfit_store}
use Rattle.index.proofs.format.format_blocks.Goals as goal
use Rattle.store.specs.Meaning.{Meaning}

pub returns-in_err-size : goal.returns-in_err-size
returns-in_err-size g c =
    let m = g.S.Store.meaning c.args.store.now in
    let p = err_from_is_err_and c.from_residual.result c.from_residual.ensures.1 in
    let e = c.in_err-size.ensures in
    let w = unfit_store g.K.Key.kind m c.args.order m.count m.size refl refl (sym e.1) in
    record { answer = search (rules, w.answer); after = w.left; tally = refl }

pub returns-then-not-order_fits : goal.returns-then-not-order_fits
returns-then-not-order_fits g c =
    let m = g.S.Store.meaning c.args.store.now in
    let w = unfit_order g.K.Key.kind m c.args.order m.count c.in_ok-size.size refl c.in_ok-size.ensures.0 (rw c.in_ok-size.ensures.0 (sym c.in_ok-size.ensures.1)) c.if-not-order_fits.ensures in
    record { answer = w.answer; after = w.left; tally = refl }

pub returns : goal.returns
returns g c =
    let m = g.S.Store.meaning c.args.store.now in
    let w = all_laid g.K.Key.kind m c.args.order m.count c.in_ok-size.size refl c.in_ok-size.ensures.0 (rw c.in_ok-size.ensures.0 (sym c.in_ok-size.ensures.1)) c.if-not-order_fits.ensures in
    record { answer = w.answer; after = c.lay.ensures ∙ w.left; tally = ap (λ (x : Meaning). x.tally) c.lay.ensures }
