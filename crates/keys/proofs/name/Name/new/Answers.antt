use Rattle.std.proofs.Common.{arith, rules}
use Rattle.keys.specs.NameLaws.{eight_of}
use Rattle.keys.proofs.name.Name.new.Goals as goal

pub returns : goal.returns
returns c = let e = eight_of c.args.text.now (omega arith) in search rules
