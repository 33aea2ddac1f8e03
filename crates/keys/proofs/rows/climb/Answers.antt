use Rattle.std.proofs.Common.{rules}
use Rattle.keys.proofs.Comparing.{lt_less}
use Rattle.keys.proofs.RowSteps.{rise_none, rise_first, rise_more, rise_all}
use Rattle.keys.proofs.rows.climb.Goals as goal

pub returns-then-count-eq0 : goal.returns-then-count-eq0
returns-then-count-eq0 g c = search (rules, rise_none)

pub returns-in_default : goal.returns-in_default
returns-in_default g c = search (rules, rise_first)

pub loop-i-init : goal.loop-i-init
loop-i-init g c = search (rules, rise_first)

pub returns-in_default-key_at : goal.returns-in_default-key_at
returns-in_default-key_at g c = search (rules, rise_more)

pub returns-else-lt : goal.returns-else-lt
returns-else-lt g c = let h = lt_less g.K.Key.kind g.met.K.Ord.matches_partial_cmp g.met.K.Key.ordered c.loop-i.last c.in-Some-key_at.key in search (rules, rise_more)

pub loop-i-preserved : goal.loop-i-preserved
loop-i-preserved g c = let h = lt_less g.K.Key.kind g.met.K.Ord.matches_partial_cmp g.met.K.Key.ordered c.loop-i.last c.in-Some-key_at.key in search (rules, rise_more)

pub returns : goal.returns
returns g c = search (rules, rise_all)
