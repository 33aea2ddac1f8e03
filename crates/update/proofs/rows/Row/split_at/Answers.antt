use Rattle.std.proofs.Common.{◌+◌, ap, ◌∙◌}
use Rattle.std.proofs.Common.{length}
use Rattle.update.proofs.RowBytes.{length_left}
use Rattle.update.proofs.rows.Row.split_at.Goals as goal

pub invariant_of-result-2 : goal.invariant_of-result-2
invariant_of-result-2 g c = record { whole = ap length c.split_at.ensures.back ∙ (rw c.key_width.ensures (length_left c.args.self.now.bytes.now c.args.self.now.count c.args.count (g.K.Key.kind.width + 4) c.args.self.now.whole)) }
