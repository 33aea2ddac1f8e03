-- The way to a leaf.
--
--   leaf_from κ n m k h top b      the leaf of k, reached from block b, h levels above the leaves
--   continued p go out             what a plan comes to that reached a leaf by `out` and then goes on with it
--   Reached κ m order k h root r page after    the leaf of k was looked for over a store that means m: the answer, the
--                                  page that then shows it, and what the store means afterwards
use Rattle.std.specs.Prelude.{◌≡◌, ℕ, Bool, true, List, Ok, Err, Result}
use Rattle.keys.specs.Kind.{Kind}
use Rattle.store.specs.Meaning.{Meaning}
use Rattle.tree.specs.declared.refusal.Refusal.{Refusal}
use Rattle.tree.specs.Nodes.{Node, see_node}
use Rattle.tree.specs.Nodes.Seen.{right}
use Rattle.tree.specs.Plans.{Outcome, Plan, bare, run}
use Rattle.tree.specs.Plans.Plan.{done}
use Rattle.tree.specs.Walks.{walk}

abbrev pub leaf_from : {K : Type 0} → Kind K → ℕ → ℕ → K → ℕ → Bool → ℕ → Plan Unit (Node K)
leaf_from κ n m k h top b = walk κ n tt m k h top b (λ f. done f.node)

abbrev pub continued : {P A D : Type 0} → P → (D → Plan P A) → Outcome Unit D → Outcome P A
continued p go (Ok d, m) = run m (go d)
continued p go (Err s, m) = (Err (record { left = p; why = s.why }), m)

-- a page that shows the leaf d
pub record Leaf {K : Type 0} (κ : Kind K) (n order : ℕ) (page : List ℕ) (d : Node K) : Type 0 where
  pub low : ℕ
  pub seen : see_node κ n order true low page ≡ right d

abbrev pub Reached : {K : Type 0} → Kind K → Meaning → ℕ → K → ℕ → ℕ → Result Unit Refusal → List ℕ → Meaning → Type 0
Reached {K} κ m order k h root (Ok u) page after = (d : Node K) × (run m (leaf_from κ m.count order k h true root) ≡ (Ok d, after)) × Leaf κ m.count order page d
Reached κ m order k h root (Err e) page after = run m (leaf_from κ m.count order k h true root) ≡ (bare (Err e), after)
