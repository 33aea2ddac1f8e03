use Rattle.std.proofs.Common.{◌≡◌, ◌-◌, ◌*◌, drop}
use Rattle.keys.specs.Rows.{keys_of, rise_above, rows_rise}
use Rattle.keys.proofs.rows.climb.Given as goal

abbrev pub invariant-loop-i : goal.invariant-loop-i
invariant-loop-i g l =
    let κ = g.K.Key.kind in
    rows_rise κ l.stride l.count l.rows ≡ rise_above κ l.last (keys_of κ l.stride (l.count - l.i) (drop (l.i * l.stride) l.rows))
