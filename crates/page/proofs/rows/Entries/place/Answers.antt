use Rattle.std.proofs.Common.{rules}
use Rattle.std.specs.Iterator.Adapters.{enumerate_source}
use Rattle.keys.proofs.Comparing.{lt_less}
use Rattle.page.proofs.Chunks.{behind, cut, cut_none, uncut, place_next}
use Rattle.page.proofs.Cuts.{place_end}
use Rattle.page.proofs.rows.Entries.place.Goals as goal

pub loop-i-init : goal.loop-i-init
loop-i-init g c =
    let x = uncut g.K.Key.kind c.args.self.now.count c.args.self.now.rows.now c.each_to_last.result c.each_to_last.ensures.size c.each_to_last.ensures.count c.each_to_last.ensures.rest in
    search rules

pub returns-in_default : goal.returns-in_default
returns-in_default g c =
    let end = behind g.K.Key.kind c.args.self.now.count c.args.self.now.rows.now in
    let x = cut g.K.Key.kind end (enumerate_source c.loop-i.i-iterator) (enumerate_source c.next.new.self) c.in-Some.entry c.loop-i.invariant.ready c.in-Some.ensures.steps.0 in
    let i = c.in-Some.ensures.steps.1 in
    let e = place_next g.K.Key.kind end (enumerate_source c.loop-i.i-iterator) (enumerate_source c.next.new.self) c.in-Some.entry.now x c.args.key.now c.in-Some.i in
    search rules

pub returns-then-lt : goal.returns-then-lt
returns-then-lt g c =
    let end = behind g.K.Key.kind c.args.self.now.count c.args.self.now.rows.now in
    let x = cut g.K.Key.kind end (enumerate_source c.loop-i.i-iterator) (enumerate_source c.next.new.self) c.in-Some.entry c.loop-i.invariant.ready c.in-Some.ensures.steps.0 in
    let i = c.in-Some.ensures.steps.1 in
    let e = place_next g.K.Key.kind end (enumerate_source c.loop-i.i-iterator) (enumerate_source c.next.new.self) c.in-Some.entry.now x c.args.key.now c.in-Some.i in
    let h = lt_less g.K.Key.kind g.met.K.Ord.matches_partial_cmp g.met.K.Key.ordered c.args.key.now c.in-Some-entry_key.k in
    search rules

pub loop-i-preserved : goal.loop-i-preserved
loop-i-preserved g c =
    let end = behind g.K.Key.kind c.args.self.now.count c.args.self.now.rows.now in
    let x = cut g.K.Key.kind end (enumerate_source c.loop-i.i-iterator) (enumerate_source c.next.new.self) c.in-Some.entry c.loop-i.invariant.ready c.in-Some.ensures.steps.0 in
    let i = c.in-Some.ensures.steps.1 in
    let j = c.in-Some.ensures.steps.2 in
    let e = place_next g.K.Key.kind end (enumerate_source c.loop-i.i-iterator) (enumerate_source c.next.new.self) c.in-Some.entry.now x c.args.key.now c.in-Some.i in
    let h = lt_less g.K.Key.kind g.met.K.Ord.matches_partial_cmp g.met.K.Key.ordered c.args.key.now c.in-Some-entry_key.k in
    search rules

pub returns : goal.returns
returns g c =
    let x = cut_none g.K.Key.kind (enumerate_source c.loop-i.i-iterator) (enumerate_source c.next.new.self) c.loop-i.invariant.ready c.in-None.ensures.steps.0 in
    search (rules, place_end)
