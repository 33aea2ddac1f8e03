use Rattle.std.proofs.Common.{ℕ, sym, ap, ◌∙◌, subst}
use Rattle.tree.proofs.Formats.{format_sound}
use Rattle.tree.specs.Plans.{rise, with_reads}
use Rattle.tree.specs.SoundCalls.{Empty}
use Rattle.index.proofs.Told.{told_by}
use Rattle.index.proofs.format.format.Goals as goal

pub returns : goal.returns
returns g c =
    let m = g.S.Store.meaning c.args.store.now in
    let e = c.format_blocks-answer.ensures in
    let a = c.tell.ensures
    ∙ (ap (λ (t : ℕ). with_reads (rise c.tally-before.result t) c.format_blocks-answer.result) e.tally
    ∙ told_by m.tally c.tally-before.result m c.tally-before.ensures _ c.format_blocks-answer.result e.answer) in
    record {
      answer = a;
      after = e.after;
      sound = λ i q.
          subst (Empty g.K.Key.kind) (sym e.after)
          (format_sound g.K.Key.kind m c.args.order m.tally i (g.met.S.Store.limits c.args.store.now).few (sym a ∙ q));
    }
