use Rattle.std.proofs.Common.{arith}
use Rattle.keys.specs.Lots.{lot_at}
use Rattle.keys.specs.LotLaws.{same_lot}
use Rattle.keys.proofs.lot.Lot.new.Goals as goal

pub returns-clause-value : goal.returns-clause-value
unfolding lot_at
returns-clause-value c = same_lot _ (lot_at c.args.year c.args.press c.args.number) (omega arith) (omega arith) (omega arith)
