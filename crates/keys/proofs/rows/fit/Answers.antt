use Rattle.std.proofs.Common.{arith, rules}
use Rattle.keys.proofs.RowSteps.{too_short}
use Rattle.keys.proofs.rows.fit.Goals as goal

pub returns-else-count-eq0 : goal.returns-else-count-eq0
returns-else-count-eq0 g c =
    record {
      value = search rules;
      short = λ e. too_short g.K.Key.kind g.met.K.Key.lawful c.args.stride c.args.count c.args.rows.now (omega arith) (let t = c.reaches.ensures in let w = c.key_width.ensures in cc);
    }
