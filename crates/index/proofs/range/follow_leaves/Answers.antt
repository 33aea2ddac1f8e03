use Rattle.std.proofs.Common.{◌≡◌, ℕ, ◌+◌, ◌-◌, true, false, Ok, Err, sym, refl, ap, ◌∙◌, arith, rules, Result, subst, [], length, ◌/◌, Bool}
use Rattle.index.proofs.Ranging.{begins, ends_here, ends_last, goes_round, next_goes, next_stops}
use Rattle.index.proofs.Steps.{roomy}
use Rattle.index.proofs.range.follow_leaves.Goals as goal
use Rattle.index.specs.Rangings.{RangeEnd}
use Rattle.store.specs.Meaning.{Meaning}
use Rattle.tree.specs.Plans.{run}
use Rattle.tree.specs.Ranges.{chase, follow}
use Rattle.tree.specs.declared.refusal.Refusal.{Refusal}
use Rattle.std.proofs.lemmas.Result.{err_from_is_err_and}
use Rattle.std.specs.Result.{MatchResult, IsErrAnd, is_ok}
use Rattle.tree.specs.declared.refusal.RangeRefusal.{RangeRefusal}

-- a refusal that was made anew on its way out
passed_on : (P : Refusal → RangeRefusal → Type 0) (n : Result Unit Refusal) (r : Result Unit RangeRefusal) (y : RangeRefusal) → r ≡ Err y → MatchResult n (λ x. r ≡ Ok x) (λ e. IsErrAnd r (P e)) → (x : Refusal) × (Err x ≡ n) × P x y
passed_on P (Ok x) r y e h = absurd (let z : ◌≡◌ {A = Result Unit RangeRefusal} (Ok x) (Err y) = sym h ∙ e in let b : true ≡ false = ap is_ok z in cc)
passed_on P (Err x) r y e h = (x, refl, subst (λ q. IsErrAnd q (P x)) e h)

pub leaves-init : goal.leaves-init
leaves-init g c =
    let κ = g.K.Key.kind in
    let m = g.S.Store.meaning c.args.reader.now.store.now in
    let fuel : c.count-fuel.result - 2 ≡ m.count - 2 = ap (λ (x : ℕ). x - 2) c.count-fuel.ensures in (
      c.requires.0,
      omega arith,
      refl,
      refl,
      refl,
      refl,
      λ d l. rw fuel (begins κ c.args.lo.now c.args.hi.now c.args.reader.now.order c.args.buffer.now m.count m c.args.reader.now.page.now d (m.count - 2) l),
    )

pub returns-in-Some-clause-followed : goal.returns-in-Some-clause-followed
returns-in-Some-clause-followed g c d l =
    let G = c.leaves.invariant.6 d l in
    let A = c.gather-number.ensures.gathered (g.S.Store.meaning c.args.reader.now.store.now).count c.args.reader.now.order G.leaf.low G.d (rw (c.of.ensures ∙ c.page.ensures) G.leaf.seen) in
    ends_here g.K.Key.kind c.args.lo.now c.args.hi.now c.args.reader.now.order c.args.buffer.now g.met.K.Key.lawful
    _ _ (g.S.Store.meaning c.leaves.reader.store.now) c.leaves.reader.page.now c.leaves.buffer c.leaves.taken c.leaves.fuel G c.leaves.auto.buffer (omega (arith, c.leaves.invariant.1, c.leaves.auto.buffer))
    c.gather-number.result c.gather-number.new.buffer A c.in-Some.more c.in-Some.is

pub returns-then-link-eq0-clause-followed : goal.returns-then-link-eq0-clause-followed
returns-then-link-eq0-clause-followed g c d l =
    let G = c.leaves.invariant.6 d l in
    let A = c.gather-number.ensures.gathered (g.S.Store.meaning c.args.reader.now.store.now).count c.args.reader.now.order G.leaf.low G.d (rw (c.of.ensures ∙ c.page.ensures) G.leaf.seen) in
    ends_last g.K.Key.kind c.args.lo.now c.args.hi.now c.args.reader.now.order c.args.buffer.now g.met.K.Key.lawful
    _ _ (g.S.Store.meaning c.leaves.reader.store.now) c.leaves.reader.page.now c.leaves.buffer c.leaves.taken c.leaves.fuel G c.leaves.auto.buffer (omega (arith, c.leaves.invariant.1, c.leaves.auto.buffer))
    c.gather-number.result c.gather-number.new.buffer A c.in_default.is c.number_at-link.result (rw c.page-in-leaves.ensures at c.number_at-link.ensures.bytes) c.if-link-eq0.true

pub returns-then-fuel-eq0-clause-followed : goal.returns-then-fuel-eq0-clause-followed
returns-then-fuel-eq0-clause-followed g c d l =
    let G = c.leaves.invariant.6 d l in
    let A = c.gather-number.ensures.gathered (g.S.Store.meaning c.args.reader.now.store.now).count c.args.reader.now.order G.leaf.low G.d (rw (c.of.ensures ∙ c.page.ensures) G.leaf.seen) in
    goes_round g.K.Key.kind c.args.lo.now c.args.hi.now c.args.reader.now.order c.args.buffer.now g.met.K.Key.lawful
    _ _ (g.S.Store.meaning c.leaves.reader.store.now) c.leaves.reader.page.now c.leaves.buffer c.leaves.taken c.leaves.fuel G c.leaves.auto.buffer (omega (arith, c.leaves.invariant.1, c.leaves.auto.buffer))
    c.gather-number.result c.gather-number.new.buffer A c.in_default.is c.number_at-link.result (rw c.page-in-leaves.ensures at c.number_at-link.ensures.bytes) c.if-link-eq0.false c.if-fuel-eq0.true

pub returns-in_err-map_err-clause-followed : goal.returns-in_err-map_err-clause-followed
returns-in_err-map_err-clause-followed g c d l =
    let G = c.leaves.invariant.6 d l in
    let A = c.gather-number.ensures.gathered (g.S.Store.meaning c.args.reader.now.store.now).count c.args.reader.now.order G.leaf.low G.d (rw (c.of.ensures ∙ c.page.ensures) G.leaf.seen) in
    let p = err_from_is_err_and c.from_residual.result c.from_residual.ensures.1 in
    let F = passed_on _ c.node.result c.map_err.result c.in_err-map_err.field-0.0 c.in_err-map_err.was c.map_err.ensures.cases in
    let same : c.in_err-map_err.field-0.0 ≡ record { refusal = F.0; entries = c.gather-number.result.0 } = let s = F.2 in search rules in
    let κ = g.K.Key.kind in
    let told : c.from_residual.result ≡ Err (record { refusal = F.0; entries = c.gather-number.result.0 }) = p.1 ∙ ap Err (p.2 ∙ same) in
    subst (λ (q : Result (ℕ × Bool) RangeRefusal). RangeEnd κ c.args.buffer.now q c.gather-number.new.buffer (g.S.Store.meaning c.node.new.self.store.now) (run (g.S.Store.meaning c.args.reader.now.store.now) (follow κ c.args.lo.now c.args.hi.now (length c.args.buffer.now / (κ.width + 4)) [] d (chase κ (g.S.Store.meaning c.args.reader.now.store.now).count c.args.reader.now.order c.args.lo.now c.args.hi.now ((g.S.Store.meaning c.args.reader.now.store.now).count - 2)))))
    (sym told)
    (next_stops κ c.args.lo.now c.args.hi.now c.args.reader.now.order c.args.buffer.now g.met.K.Key.lawful
    _ _ (g.S.Store.meaning c.leaves.reader.store.now) c.leaves.reader.page.now c.leaves.buffer c.leaves.taken c.leaves.fuel G c.leaves.auto.buffer (omega (arith, c.leaves.invariant.1, c.leaves.auto.buffer))
    c.gather-number.result c.gather-number.new.buffer A c.in_default.is c.number_at-link.result (rw c.page-in-leaves.ensures at c.number_at-link.ensures.bytes) c.if-link-eq0.false (omega (arith, c.if-fuel-eq0.false)) (sym c.leaves.invariant.2)
    c.node.new.self.page.now (g.S.Store.meaning c.node.new.self.store.now) c.node.result (rw c.leaves.invariant.3 at c.node.ensures.read) F.0 F.1)

pub leaves-preserved : goal.leaves-preserved
leaves-preserved g c =
    let o : Ok tt ≡ c.node.result = search rules in
    let κ = g.K.Key.kind in
    let m = g.S.Store.meaning c.leaves.reader.store.now in
    let m' = g.S.Store.meaning c.node.new.self.store.now in
    let v = c.leaves.invariant in
    let n = c.node.ensures in
    let e = rw v.3 at n.read in
    let size = ap (λ (x : Meaning). x.size) e.tallies in (
      roomy κ true m false c.leaves.reader.order c.number_at-link.result c.leaves.reader.page.now c.node.new.self.page.now m' c.node.result n.read (κ.width + 4) c.leaves.reader.room (c.node.new.self.fits ∙ size) o,
      c.gather-number.ensures.within,
      ap (λ (x : Meaning). x.count) e.tallies ∙ v.2,
      n.order ∙ v.3,
      n.same_store ∙ v.4,
      n.same_page ∙ v.5,
      λ d l.
          let G = v.6 d l in
          let A = c.gather-number.ensures.gathered (g.S.Store.meaning c.args.reader.now.store.now).count c.args.reader.now.order G.leaf.low G.d (rw (c.of.ensures ∙ c.page.ensures) G.leaf.seen) in
          next_goes κ c.args.lo.now c.args.hi.now c.args.reader.now.order c.args.buffer.now g.met.K.Key.lawful
          _ _ m c.leaves.reader.page.now c.leaves.buffer c.leaves.taken c.leaves.fuel G c.leaves.auto.buffer (omega (arith, v.1, c.leaves.auto.buffer))
          c.gather-number.result c.gather-number.new.buffer A c.in_default.is c.number_at-link.result (rw c.page-in-leaves.ensures at c.number_at-link.ensures.bytes) c.if-link-eq0.false (omega (arith, c.if-fuel-eq0.false)) (sym v.2)
          c.node.new.self.page.now m' c.node.result e o,
    )
