-- What every plan keeps.
--
--   answer c plan       what the plan answers over the contents c if no block is marked
--   tallied_by i m      m after i reads more
--   Clear m b           block b is in the store and has no mark
--   Ended m bs a out    how a run with the reading list bs ends: with the answer a if all of bs are clear, and else
--                       unreadable, by the fault of the first one that is not. The reads made are tallied.
--   Kept m plan         the plan, run at a store that means m, ends so
--   Unreadably r        refused as unreadable
--   Exactly m plan      the plan is refused so if and only if a block on its reading list is not clear. This holds of every plan
--                       that does not answer so by itself.
use Rattle.std.specs.Prelude.{◌≡◌, ℕ, zero, suc, ◌<◌, List, ◌∷◌, ◌++◌, length, Some, None, Ok, Err, Result}
use Rattle.std.specs.List.{AllByRecursion}
use Rattle.store.specs.declared.fault.Fault.{Fault}
use Rattle.store.specs.Calls.{refusal}
use Rattle.store.specs.Meaning.{Meaning, tallied}
use Rattle.tree.specs.declared.refusal.Refusal.TheVariants.{Unreadable}
use Rattle.tree.specs.Plans.{Outcome, Plan, Stop, reading, run}
use Rattle.tree.specs.Plans.Plan.{done, look, refuse}

unfoldable pub answer : {P A : Type 0} → (ℕ → List ℕ) → Plan P A → Result A (Stop P)
answer c (done a) = Ok a
answer c (refuse p r) = Err (record { left = p; why = r })
answer c (look p b k) = answer c (k (c b))

unfoldable pub tallied_by : ℕ → Meaning → Meaning
tallied_by zero m = m
tallied_by (suc i) m = tallied_by i (tallied m)

abbrev pub Clear : Meaning → ℕ → Type 0
Clear m b = (b < m.count) × (m.mark b ≡ None)

pub data Ended {P A : Type 0} (m : Meaning) (bs : List ℕ) (a : Result A (Stop P)) (out : Outcome P A) : Type 0 where
  whole : AllByRecursion (Clear m) bs → out ≡ (a, tallied_by (length bs) m) → Ended m bs a out
  stopped : (before : List ℕ) (b : ℕ) (behind : List ℕ) (f : Fault) (p : P) → bs ≡ before ++ b ∷ behind → AllByRecursion (Clear m) before → refusal m b m.size ≡ Some f
      → out ≡ (Err (record { left = p; why = Unreadable f }), tallied_by (suc (length before)) m) → Ended m bs a out

module _ {P A : Type 0} where
  abbrev pub Kept : Meaning → Plan P A → Type 0
  Kept m plan = Ended m (reading m.contents plan) (answer m.contents plan) (run m plan)

  abbrev pub Unreadably : Result A (Stop P) → Type 0
  Unreadably r = (p : P) × (f : Fault) × (r ≡ Err (record { left = p; why = Unreadable f }))

  abbrev pub Exactly : Meaning → Plan P A → Type 0
  Exactly m plan =
      (Unreadably (run m plan).0 → AllByRecursion (Clear m) (reading m.contents plan) → ⊥) × ((AllByRecursion (Clear m) (reading m.contents plan) → ⊥) → Unreadably (run m plan).0)
