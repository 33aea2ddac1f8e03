use Rattle.std.proofs.Common.{rules}
use Rattle.keys.proofs.Comparing.{lt_less}
use Rattle.page.proofs.Chunks.{behind, cut, cut_none, uncut, kid_next}
use Rattle.page.proofs.Cuts.{kid_end}
use Rattle.page.proofs.rows.Entries.child.Goals as goal

pub loop-entry-init : goal.loop-entry-init
loop-entry-init g c =
    let x = uncut g.K.Key.kind c.args.self.now.count c.args.self.now.rows.now c.each_to_last-entry-items.result c.each_to_last-entry-items.ensures.size c.each_to_last-entry-items.ensures.count c.each_to_last-entry-items.ensures.rest in
    search rules

pub returns-in_default : goal.returns-in_default
returns-in_default g c =
    let end = behind g.K.Key.kind c.args.self.now.count c.args.self.now.rows.now in
    let x = cut g.K.Key.kind end c.loop-entry.entry-iterator c.next.new.self c.in-Some.entry c.loop-entry.invariant.ready c.in-Some.ensures.steps in
    let e = kid_next g.K.Key.kind end c.loop-entry.entry-iterator c.next.new.self c.in-Some.entry.now x c.args.key.now c.loop-entry.child in
    search rules

pub returns-then-lt : goal.returns-then-lt
returns-then-lt g c =
    let end = behind g.K.Key.kind c.args.self.now.count c.args.self.now.rows.now in
    let x = cut g.K.Key.kind end c.loop-entry.entry-iterator c.next.new.self c.in-Some.entry c.loop-entry.invariant.ready c.in-Some.ensures.steps in
    let e = kid_next g.K.Key.kind end c.loop-entry.entry-iterator c.next.new.self c.in-Some.entry.now x c.args.key.now c.loop-entry.child in
    let h = lt_less g.K.Key.kind g.met.K.Ord.matches_partial_cmp g.met.K.Key.ordered c.args.key.now c.in-Some-entry_key.k in
    search rules

pub loop-entry-preserved : goal.loop-entry-preserved
loop-entry-preserved g c =
    let end = behind g.K.Key.kind c.args.self.now.count c.args.self.now.rows.now in
    let x = cut g.K.Key.kind end c.loop-entry.entry-iterator c.next.new.self c.in-Some.entry c.loop-entry.invariant.ready c.in-Some.ensures.steps in
    let e = kid_next g.K.Key.kind end c.loop-entry.entry-iterator c.next.new.self c.in-Some.entry.now x c.args.key.now c.loop-entry.child in
    let h = lt_less g.K.Key.kind g.met.K.Ord.matches_partial_cmp g.met.K.Key.ordered c.args.key.now c.in-Some-entry_key.k in
    search rules

pub returns : goal.returns
returns g c =
    let x = cut_none g.K.Key.kind c.loop-entry.entry-iterator c.next.new.self c.loop-entry.invariant.ready c.in-None.ensures.steps in
    search (rules, kid_end)
