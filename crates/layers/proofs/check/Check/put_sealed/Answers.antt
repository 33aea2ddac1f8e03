use Rattle.std.proofs.Common.{◌≡◌, ap, ◌∙◌, arith, rules}
use Rattle.store.specs.Meaning.{Meaning, written}
use Rattle.layers.specs.Checks.{check, sealed}
use Rattle.layers.proofs.Seals.{check_written}
use Rattle.layers.proofs.check.Check.put_sealed.Goals as goal

pub returns-clause-after : goal.returns-clause-after
returns-clause-after g c =
    let s = c.args.self.now in
    let m = g.S.Store.meaning s.below in
    let b = c.args.block in
    let ys = c.args.bytes.now in
    let below : g.S.Store.meaning c.write.new.self ≡ written m b (sealed ys b) = search rules in
    ap (λ (k : Meaning). check k s.tally) below ∙ check_written m s.tally b ys (omega arith) (omega arith)
