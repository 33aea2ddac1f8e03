-- The shape of a tree: counts, order and bounds in one recursion, as the proofs want them.
--
--   is_zero h                  whether a tree of h levels above the leaves is a leaf
--   Rise κ k hi es             the keys of es rise strictly, from above k on and up to below hi
--   Span κ lo hi es            the keys of es rise strictly, from lo on and up to below hi
--   Shaped κ m h low lo hi t   a tree of h levels above the leaves: its root has low to m entries, the others as many as
--                              rule 3 asks, keys rise, and each child is between the separators beside it
use Rattle.std.specs.Prelude.{◌≡◌, ℕ, zero, suc, ◌≤◌, Bool, true, false, List, [], ◌∷◌, length, Option}
use Rattle.keys.specs.Kind.{Kind}
use Rattle.tree.specs.Nodes.{least}
use Rattle.tree.specs.Trees.{AtLeast, Below, Kids, Tree}

abbrev pub is_zero : ℕ → Bool
is_zero zero = true
is_zero (suc h) = false

module _ {K : Type 0} (κ : Kind K) where
  abbrev pub Rise : {X : Type 0} → K → Option K → List (K × X) → Type 0
  Rise k hi [] = Below κ k hi
  Rise k hi (e ∷ es) = (κ.less k e.0 ≡ true) × Rise e.0 hi es

  abbrev pub Span : {X : Type 0} → Option K → Option K → List (K × X) → Type 0
  Span lo hi [] = Unit {0}
  Span lo hi (e ∷ es) = AtLeast κ lo e.0 × Rise e.0 hi es

  abbrev pub Shaped : ℕ → (h : ℕ) → ℕ → Option K → Option K → Tree K h → Type 0
  Shaped m zero low lo hi t = (low ≤ length t.entries) × (length t.entries ≤ m) × Span lo hi t.entries
  Shaped m (suc h) low lo hi t =
      (low ≤ length t.rest) × (length t.rest ≤ m) × Span lo hi t.rest × Kids κ (Shaped m h (least m false (is_zero h))) lo hi t.first t.rest
