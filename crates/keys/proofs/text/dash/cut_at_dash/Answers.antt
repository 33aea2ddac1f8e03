use Rattle.std.proofs.Common.{◌+◌, ◌-◌, length, drop, arith, rules, length-drop}
use Rattle.std.proofs.lemmas.List.{take_all, drop_all}
use Rattle.keys.proofs.DashSteps.{before_is, past_is, at_first, no_dash}
use Rattle.keys.proofs.text.dash.cut_at_dash.Goals as goal

pub returns-in-Some-clause-before : goal.returns-in-Some-clause-before
returns-in-Some-clause-before c = let i = at_first c.args.text.now c.in-Some.at c.in-Some.ensures in search (rules, before_is)

pub returns-in-Some-clause-after : goal.returns-in-Some-clause-after
returns-in-Some-clause-after c =
    let cs = c.args.text.now in
    let i = at_first cs c.in-Some.at c.in-Some.ensures in
    let d = length-drop (c.in-Some.at + 1) cs in
    let t = take_all (length cs - (c.in-Some.at + 1)) (drop (c.in-Some.at + 1) cs) (omega arith) in search (rules, past_is)

pub returns-in-None-clause-before : goal.returns-in-None-clause-before
returns-in-None-clause-before c = let n = no_dash c.args.text.now c.in-None.ensures in search (rules, before_is, take_all)

pub returns-in-None-clause-after : goal.returns-in-None-clause-after
returns-in-None-clause-after c = let n = no_dash c.args.text.now c.in-None.ensures in search (rules, past_is, drop_all)
