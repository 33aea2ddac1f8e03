use Rattle.std.proofs.Common.{drop, length, sym, ◌∙◌, rules}
use Rattle.keys.proofs.Comparing.{lt_less}
use Rattle.tree.specs.Fields.{u8_at}
use Rattle.page.proofs.Chunks.{behind, cut, cut_none, uncut}
use Rattle.page.proofs.GatherChunks.{gather_full, gather_next, gather_one}
use Rattle.page.proofs.GatherSteps.{gather_end, one_fits}
use Rattle.page.proofs.gather.gather_rows.Goals as goal

pub loop-entry-init : goal.loop-entry-init
loop-entry-init g c =
    let x = uncut g.K.Key.kind (u8_at 1 c.args.node.now.page.now) (drop 8 c.args.node.now.page.now) c.each_to_last-entry-items.result c.each_to_last-entry-items.ensures.size
    (rw c.entries.ensures.count at c.each_to_last-entry-items.ensures.count) (rw (c.entries.ensures.count, c.entries.ensures.rows) at c.each_to_last-entry-items.ensures.rest) in
    search rules

pub returns-in_default : goal.returns-in_default
returns-in_default g c =
    let end = behind g.K.Key.kind (u8_at 1 c.args.node.now.page.now) (drop 8 c.args.node.now.page.now) in
    let x = cut g.K.Key.kind end c.loop-entry.entry-iterator c.next.new.self c.in-Some.entry c.loop-entry.invariant.ready c.in-Some.ensures.steps in
    let e = gather_next g.K.Key.kind c.args.lo.now c.args.hi.now end c.loop-entry.entry-iterator c.next.new.self c.in-Some.entry.now x c.loop-entry.number c.loop-entry.buffer in
    search rules

pub loop-entry-preserved-then-lt : goal.loop-entry-preserved-then-lt
loop-entry-preserved-then-lt g c =
    let end = behind g.K.Key.kind (u8_at 1 c.args.node.now.page.now) (drop 8 c.args.node.now.page.now) in
    let x = cut g.K.Key.kind end c.loop-entry.entry-iterator c.next.new.self c.in-Some.entry c.loop-entry.invariant.ready c.in-Some.ensures.steps in
    let e = gather_next g.K.Key.kind c.args.lo.now c.args.hi.now end c.loop-entry.entry-iterator c.next.new.self c.in-Some.entry.now x c.loop-entry.number c.loop-entry.buffer in
    let a = lt_less g.K.Key.kind g.met.K.Ord.matches_partial_cmp g.met.K.Key.ordered c.in-Some-entry_key.k c.args.lo.now in
    search rules

pub returns-then-lt-2 : goal.returns-then-lt-2
returns-then-lt-2 g c =
    let end = behind g.K.Key.kind (u8_at 1 c.args.node.now.page.now) (drop 8 c.args.node.now.page.now) in
    let x = cut g.K.Key.kind end c.loop-entry.entry-iterator c.next.new.self c.in-Some.entry c.loop-entry.invariant.ready c.in-Some.ensures.steps in
    let e = gather_next g.K.Key.kind c.args.lo.now c.args.hi.now end c.loop-entry.entry-iterator c.next.new.self c.in-Some.entry.now x c.loop-entry.number c.loop-entry.buffer in
    let a = lt_less g.K.Key.kind g.met.K.Ord.matches_partial_cmp g.met.K.Key.ordered c.in-Some-entry_key.k c.args.lo.now in
    let b = lt_less g.K.Key.kind g.met.K.Ord.matches_partial_cmp g.met.K.Key.ordered c.args.hi.now c.in-Some-entry_key.k in
    search rules

pub returns-then-buffer-at : goal.returns-then-buffer-at
returns-then-buffer-at g c =
    let end = behind g.K.Key.kind (u8_at 1 c.args.node.now.page.now) (drop 8 c.args.node.now.page.now) in
    let x = cut g.K.Key.kind end c.loop-entry.entry-iterator c.next.new.self c.in-Some.entry c.loop-entry.invariant.ready c.in-Some.ensures.steps in
    let a = lt_less g.K.Key.kind g.met.K.Ord.matches_partial_cmp g.met.K.Key.ordered c.in-Some-entry_key.k c.args.lo.now in
    let b = lt_less g.K.Key.kind g.met.K.Ord.matches_partial_cmp g.met.K.Key.ordered c.args.hi.now c.in-Some-entry_key.k in
    record {
      walked = sym (c.loop-entry.invariant.same ∙ gather_full g.K.Key.kind c.args.lo.now c.args.hi.now end c.loop-entry.entry-iterator c.next.new.self c.in-Some.entry.now x c.loop-entry.number c.loop-entry.buffer
          c.key_width-size.result c.in-Some-entry_key.k c.key_width-size.ensures c.in-Some-entry_key.ensures (c.if-lt.ensures ∙ a) (c.if-lt-2.ensures ∙ b) c.if-buffer-at.true);
      within = c.loop-entry.invariant.room;
    }

pub loop-entry-preserved : goal.loop-entry-preserved
loop-entry-preserved g c =
    let end = behind g.K.Key.kind (u8_at 1 c.args.node.now.page.now) (drop 8 c.args.node.now.page.now) in
    let x = cut g.K.Key.kind end c.loop-entry.entry-iterator c.next.new.self c.in-Some.entry c.loop-entry.invariant.ready c.in-Some.ensures.steps in
    let a = lt_less g.K.Key.kind g.met.K.Ord.matches_partial_cmp g.met.K.Key.ordered c.in-Some-entry_key.k c.args.lo.now in
    let b = lt_less g.K.Key.kind g.met.K.Ord.matches_partial_cmp g.met.K.Key.ordered c.args.hi.now c.in-Some-entry_key.k in
    record {
      same = c.loop-entry.invariant.same ∙ gather_one g.K.Key.kind c.args.lo.now c.args.hi.now end c.loop-entry.entry-iterator c.next.new.self c.in-Some.entry.now x c.loop-entry.number c.loop-entry.buffer
          c.key_width-size.result c.overlay.new.slice c.in-Some-entry_key.k c.key_width-size.ensures c.in-Some-entry_key.ensures (c.if-lt.ensures ∙ a) (c.if-lt-2.ensures ∙ b) c.if-buffer-at.false c.overlay.ensures;
      ready = x.ready;
      room = one_fits c.loop-entry.number c.key_width-size.result g.K.Key.kind.width (length c.loop-entry.buffer) (length c.overlay.new.slice) c.key_width-size.ensures c.loop-entry.invariant.room c.if-buffer-at.false c.overlay.auto.slice;
    }

pub returns : goal.returns
returns g c =
    let x = cut_none g.K.Key.kind c.loop-entry.entry-iterator c.next.new.self c.loop-entry.invariant.ready c.in-None.ensures.steps in
    search (rules, gather_end)
