use Rattle.std.proofs.Common.{rules}
use Rattle.keys.specs.Padding.{padded}
use Rattle.keys.proofs.name.calls.is_padded.Goals as goal

pub returns-then-may_follow-6 : goal.returns-then-may_follow-6
unfolding padded
returns-then-may_follow-6 c = search rules

pub returns-else-may_follow-6 : goal.returns-else-may_follow-6
unfolding padded
returns-else-may_follow-6 c = search rules
