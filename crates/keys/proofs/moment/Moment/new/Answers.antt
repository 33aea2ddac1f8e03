use Rattle.std.proofs.Common.{sym, rules}
use Rattle.keys.specs.MomentLaws.{moment_there}
use Rattle.keys.proofs.moment.Moment.new.Goals as goal

pub returns-clause-value : goal.returns-clause-value
returns-clause-value c = sym (moment_there _ c.args.seconds (search rules))
