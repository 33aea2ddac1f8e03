use Rattle.std.proofs.Common.{◌≡◌, Ok, ap, arith, rules}
use Rattle.index.proofs.Steps.{head_room}
use Rattle.index.proofs.reading.BlockReader.head.Goals as goal
use Rattle.index.specs.Readings.{head_answer}
use Rattle.store.specs.Calls.{refusal}
use Rattle.store.specs.Meaning.{Meaning}
use Rattle.tree.specs.Heads.{see_head}

pub invariant_of-self-2-clause-room : goal.invariant_of-self-2-clause-room
invariant_of-self-2-clause-room g c =
    let κ = g.K.Key.kind in
    let m = g.S.Store.meaning c.args.self.now.store.now in
    let f = c.args.self.now.fits in
    let h : Ok c.in_ok-head.head ≡ head_answer (refusal m 0 m.size) (see_head κ m.count m.size (m.contents 0)) = search rules in
    let r = head_room κ m (g.S.Store.meaning c.read.new.self) c.in_ok-read.ensures.after c.in_ok-head.head c.requires.wide h in
    let s = ap (λ (x : Meaning). x.size) c.in_ok-read.ensures.after in omega (arith, r.0)
