use Rattle.std.proofs.Common.{sym, ap, ◌∙◌, arith}
use Rattle.std.proofs.lemmas.Result.{err_from_is_err_and}
use Rattle.store.specs.Meaning.{Meaning}
use Rattle.update.proofs.Frees.{going_done, going_ended, going_on, going_stopped, seen_done, seen_ended, seen_stopped}
use Rattle.update.proofs.free.read_frees.Goals as goal

pub returns-then-block-eq0-clause-read : goal.returns-then-block-eq0-clause-read
returns-then-block-eq0-clause-read g c = going_ended c.loop-i.invariant.0 (omega arith) (omega arith)

pub returns-then-block-eq0-clause-spare : goal.returns-then-block-eq0-clause-spare
returns-then-block-eq0-clause-spare g c = seen_ended c.loop-i.invariant.0 (omega arith) (omega arith)

pub returns-in_err-next-clause-read : goal.returns-in_err-next-clause-read
returns-in_err-next-clause-read g c =
    let p = err_from_is_err_and c.from_residual.result c.from_residual.ensures.1 in
    rw (p.1, p.2) (going_stopped c.loop-i.invariant.0 (omega arith) (omega arith) c.in_err-next.ensures.after c.in_err-next.ensures.answer)

pub returns-in_err-next-clause-spare : goal.returns-in_err-next-clause-spare
returns-in_err-next-clause-spare g c = seen_stopped c.loop-i.invariant.0 (omega arith) (omega arith) c.in_err-next.ensures.after c.in_err-next.ensures.answer

pub loop-i-preserved : goal.loop-i-preserved
loop-i-preserved g c =
    let e = c.in_ok-next.ensures in
    (going_on c.loop-i.invariant.0 (omega arith) (omega arith) e.after e.answer c.push.ensures, c.read_free.auto.page ∙ (c.loop-i.invariant.1 ∙ sym (ap (λ (x : Meaning). x.size) e.after)))

pub returns-clause-read : goal.returns-clause-read
returns-clause-read g c = going_done c.loop-i.invariant.0 (omega arith)

pub returns-clause-spare : goal.returns-clause-spare
returns-clause-spare g c = seen_done c.loop-i.invariant.0 (omega arith)
