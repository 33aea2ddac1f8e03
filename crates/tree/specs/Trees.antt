-- The tree that a file shows, by levels: a leaf at level 0.
--
--   Leaf K                     a leaf: its block, the link to the next leaf, its records
--   Inner K T                  an inner node: its block, the first child, and the child for keys from each separator on
--   Tree K h                   a tree of h levels above the leaves
--   block_of K h t             the block of its root
--   node_of K h t              the node in that block
--   entries_of K h t           the entries of its leaves, from left to right
--   blocks_of K h t            the blocks of all its nodes
--   leaves_of K h t            its leaves from left to right: of each the block and the link
--   EachNode P h top t         P holds of each node: whether it is a leaf, whether it is the root, its block, and what it holds
--   AtLeast κ lo k             k is at least lo, if there is such a bound
--   Below κ k hi               k is less than hi, if there is such a bound
--   Within κ lo hi h t         every key in any node of the tree is at least lo and less than hi
--   Kids S lo hi t ts          S holds of each child with the separators before it and after it
--   Parted κ h t               below each inner node every child is within the separators beside it
--   Shows κ n m c h top t      the blocks are seen as the nodes of the tree
--   kid_for κ k t ts           the child for k
--   trail κ h k t              the blocks on the way to the leaf of k
--   times b xs                 how often b is in xs
use Rattle.std.specs.Prelude.{◌≡◌, ℕ, zero, suc, ◌+◌, Bool, true, false, cond, List, [], ◌∷◌, ◌++◌, map, Some, None, Option, ◌==◌}
use Rattle.keys.specs.Kind.{Kind}
use Rattle.std.specs.List.{flat_map, AllByRecursion}
use Rattle.tree.specs.Nodes.{Node, least, see_node}
use Rattle.tree.specs.Nodes.Seen.{right}

pub record Leaf (K : Type 0) : Type 0 where
  pub block : ℕ
  pub link : ℕ
  pub entries : List (K × ℕ)

pub record Inner (K T : Type 0) : Type 0 where
  pub block : ℕ
  pub first : T
  pub rest : List (K × T)

abbrev pub Tree : Type 0 → ℕ → Type 0
Tree K zero = Leaf K
Tree K (suc h) = Inner K (Tree K h)

module _ (K : Type 0) where
  abbrev pub block_of : (h : ℕ) → Tree K h → ℕ
  block_of zero t = t.block
  block_of (suc h) t = t.block

  abbrev pub node_of : (h : ℕ) → Tree K h → Node K
  node_of zero t = record { link = t.link; entries = t.entries }
  node_of (suc h) t = record { link = block_of h t.first; entries = map (λ x. (x.0, block_of h x.1)) t.rest }

  abbrev pub entries_of : (h : ℕ) → Tree K h → List (K × ℕ)
  entries_of zero t = t.entries
  entries_of (suc h) t = entries_of h t.first ++ flat_map (λ x. entries_of h x.1) t.rest

  abbrev pub blocks_of : (h : ℕ) → Tree K h → List ℕ
  blocks_of zero t = t.block ∷ []
  blocks_of (suc h) t = t.block ∷ (blocks_of h t.first ++ flat_map (λ x. blocks_of h x.1) t.rest)

  abbrev pub leaves_of : (h : ℕ) → Tree K h → List (ℕ × ℕ)
  leaves_of zero t = (t.block, t.link) ∷ []
  leaves_of (suc h) t = leaves_of h t.first ++ flat_map (λ x. leaves_of h x.1) t.rest

module _ {K : Type 0} (P : Bool → Bool → ℕ → Node K → Type 0) where
  abbrev pub EachNode : (h : ℕ) → Bool → Tree K h → Type 0
  EachNode zero top t = P true top t.block (node_of K zero t)
  EachNode (suc h) top t = P false top t.block (node_of K (suc h) t) × EachNode h false t.first × AllByRecursion (λ x. EachNode h false x.1) t.rest

module _ {K : Type 0} (κ : Kind K) where
  abbrev pub AtLeast : Option K → K → Type 0
  AtLeast None k = Unit {0}
  AtLeast (Some a) k = κ.less k a ≡ false

  abbrev pub Below : K → Option K → Type 0
  Below k None = Unit {0}
  Below k (Some z) = κ.less k z ≡ true

  abbrev pub Within : Option K → Option K → (h : ℕ) → Tree K h → Type 0
  Within lo hi zero t = AllByRecursion (λ e. AtLeast lo e.0 × Below e.0 hi) t.entries
  Within lo hi (suc h) t = AllByRecursion (λ x. AtLeast lo x.0 × Below x.0 hi) t.rest × Within lo hi h t.first × AllByRecursion (λ x. Within lo hi h x.1) t.rest

  abbrev pub Kids : {T : Type 0} → (Option K → Option K → T → Type 0) → Option K → Option K → T → List (K × T) → Type 0
  Kids S lo hi t [] = S lo hi t
  Kids S lo hi t (x ∷ xs) = S lo (Some x.0) t × Kids S (Some x.0) hi x.1 xs

  abbrev pub Parted : (h : ℕ) → Tree K h → Type 0
  Parted zero t = Unit {0}
  Parted (suc h) t = Kids (λ lo hi. Within lo hi h) None None t.first t.rest × Parted h t.first × AllByRecursion (λ x. Parted h x.1) t.rest

  abbrev pub Shows : ℕ → ℕ → (ℕ → List ℕ) → (h : ℕ) → Bool → Tree K h → Type 0
  Shows n m c = EachNode (λ is_leaf top b d. see_node κ n m is_leaf (least m top is_leaf) (c b) ≡ right d)

  abbrev pub kid_for : {T : Type 0} → K → T → List (K × T) → T
  kid_for k t [] = t
  kid_for k t (x ∷ xs) = cond (κ.less k x.0) t (kid_for k x.1 xs)

  abbrev pub trail : (h : ℕ) → K → Tree K h → List ℕ
  trail zero k t = t.block ∷ []
  trail (suc h) k t = t.block ∷ trail h k (kid_for k t.first t.rest)

abbrev pub times : ℕ → List ℕ → ℕ
times b [] = 0
times b (x ∷ xs) = cond (b == x) 1 0 + times b xs
