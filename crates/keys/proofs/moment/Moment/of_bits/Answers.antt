use Rattle.std.proofs.Common.{rules}
use Rattle.keys.specs.Moments.{moment_at}
use Rattle.keys.specs.MomentLaws.{same_moment}
use Rattle.keys.proofs.moment.Moment.of_bits.Goals as goal

pub returns : goal.returns
unfolding moment_at
returns c = same_moment _ (moment_at c.args.bits) (search rules)
