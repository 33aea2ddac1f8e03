-- Every plan, run at any store.
use Rattle.std.proofs.Common.{◌≡◌, ℕ, Bool, true, false, cond, eqb, ltb, List, [], ◌∷◌, ◌++◌, Some, None, Option, sym, refl, ap, ◌∙◌, subst, arith}
use Rattle.std.proofs.lemmas.Bool.{eq-eqb, lt-ltb, ltb-true}
use Rattle.std.specs.List.{AllByRecursion}
use Rattle.store.specs.declared.fault.Fault.{Fault}
use Rattle.store.specs.declared.fault.Cause.TheVariants.{NoSuchBlock, WrongBuffer}
use Rattle.store.specs.Faults.{fault}
use Rattle.store.specs.Calls.{or_else, refusal}
use Rattle.store.specs.Meaning.{Meaning, tallied}
use Rattle.tree.specs.Laws.{Clear, Ended, Exactly, Kept, Unreadably, answer, tallied_by}
use Rattle.tree.specs.Laws.Ended.{whole, stopped}
use Rattle.tree.specs.Plans.{Outcome, Plan, on_read, reading, run}
use Rattle.tree.specs.Plans.Plan.{done, look, refuse}

-- a block that a read does not refuse is clear
pub clear_by : (m : Meaning) (b : ℕ) → refusal m b m.size ≡ None → Clear m b
clear_by m b h = go (ltb b m.count) refl (eqb m.size m.size) h
  where
    go : (p : Bool) → ltb b m.count ≡ p → (q : Bool) → or_else (cond p (cond q None (Some (fault WrongBuffer b))) (Some (fault NoSuchBlock b))) (m.mark b) ≡ None → Clear m b
    go true e true h = (ltb-true b m.count e, h)
    go true e false h = absurd (let z : ◌≡◌ {A = ℕ} 0 1 = cc in omega arith)
    go false e q h = absurd (let z : ◌≡◌ {A = ℕ} 0 1 = cc in omega arith)

-- a block that is refused is not
pub not_clear : (m : Meaning) (b : ℕ) (f : Fault) → refusal m b m.size ≡ Some f → Clear m b → ⊥
not_clear m b f h c = let e = lt-ltb b m.count c.0 in let s = eq-eqb m.size m.size refl in let q = c.1 in let w = rw (e, s, q) at h in absurd (let z : ◌≡◌ {A = ℕ} 0 1 = cc in omega arith)

clear_parts : (m : Meaning) (before : List ℕ) (b : ℕ) (behind : List ℕ) → AllByRecursion (Clear m) (before ++ b ∷ behind) → Clear m b
clear_parts m [] b behind a = a.0
clear_parts m (x ∷ xs) b behind a = clear_parts m xs b behind a.1

module _ {P A : Type 0} where
  pub kept : (m : Meaning) (plan : Plan P A) → Kept m plan
  unfolding run reading answer tallied_by
  kept m (done a) = whole tt refl
  kept m (refuse p r) = whole tt refl
  kept m (look p b k) = by (refusal m b m.size) refl (kept (tallied m) (k (m.contents b)))
    where
      by : (o : Option Fault) → refusal m b m.size ≡ o → Kept (tallied m) (k (m.contents b))
          → Ended m (b ∷ reading m.contents (k (m.contents b))) (answer m.contents (k (m.contents b))) (on_read o p m (run (tallied m) (k (m.contents b))))
      by None e (whole a q) = whole (clear_by m b e, a) q
      by None e (stopped xs x ys f l w a r q) = stopped (b ∷ xs) x ys f l (ap (λ (z : List ℕ). b ∷ z) w) (clear_by m b e, a) r q
      by (Some f) e i = stopped [] b (reading m.contents (k (m.contents b))) f p refl tt e refl

  pub exactly : (m : Meaning) (plan : Plan P A) → (Unreadably (answer m.contents plan) → ⊥) → Exactly m plan
  exactly m plan own = (λ u a. first (kept m plan) u a, λ n. second (kept m plan) n)
    where
      bs : List ℕ
      bs = reading m.contents plan

      first : Kept m plan → Unreadably (run m plan).0 → AllByRecursion (Clear m) bs → ⊥
      first (whole a q) u c = own (u.0, u.1, sym (ap (λ (o : Outcome P A). o.0) q) ∙ u.2)
      first (stopped xs b ys f l w a r q) u c = not_clear m b f r (clear_parts m xs b ys (subst (AllByRecursion (Clear m)) w c))

      second : Kept m plan → (AllByRecursion (Clear m) bs → ⊥) → Unreadably (run m plan).0
      second (whole a q) n = absurd (n a)
      second (stopped xs b ys f l w a r q) n = (l, f, ap (λ (o : Outcome P A). o.0) q)
