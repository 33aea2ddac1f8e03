-- Reading the head and the way from the root to the leaf of a key, as parts of plans.
--
--   Frame K                 an inner node on the way: its block, its link, its entries up to the key and those past it
--   Found K                 the way to a leaf, from the root, and the leaf
--   last_kid b es           the last child of those that begin with b
--   with_head κ n size p go       read the head, and go on with it
--   with_node κ n p m is_leaf low b go    read block b as a node, and go on with it
--   walk κ n p m k h top b go     go from block b, h levels above the leaves, to the leaf of k, and go on with what was found
use Rattle.std.specs.Prelude.{ℕ, zero, suc, Bool, true, false, cond, ◌&&◌, List, [], ◌∷◌, Ok, Err, Result, nat_le}
use Rattle.keys.specs.Kind.{Kind}
use Rattle.tree.specs.declared.head.Head.{Head}
use Rattle.tree.specs.declared.refusal.Refusal.{Refusal}
use Rattle.tree.specs.declared.refusal.Refusal.TheVariants.{Broken, Unfit}
use Rattle.tree.specs.Entries.{part}
use Rattle.tree.specs.Heads.{see_head}
use Rattle.tree.specs.Nodes.{Node, Seen, least, see_node}
use Rattle.tree.specs.Nodes.Seen.{wrong, right}
use Rattle.tree.specs.Plans.{Plan}
use Rattle.tree.specs.Plans.Plan.{look, refuse}

pub record Frame (K : Type 0) : Type 0 where
  pub block : ℕ
  pub link : ℕ
  pub before : List (K × ℕ)
  pub behind : List (K × ℕ)

pub record Found (K : Type 0) : Type 0 where
  pub path : List (Frame K)
  pub leaf : ℕ
  pub node : Node K

abbrev pub last_kid : {K : Type 0} → ℕ → List (K × ℕ) → ℕ
last_kid b [] = b
last_kid b (e ∷ es) = last_kid e.1 es

-- a block that is wrong is refused by the rule that it breaks
abbrev pub on_seen : {P A D : Type 0} → P → ℕ → (D → Plan P A) → Seen D → Plan P A
on_seen p b go (wrong r) = refuse p (Broken r b)
on_seen p b go (right d) = go d

abbrev pub on_head : {P A : Type 0} → P → (Head → Plan P A) → Result Head Refusal → Plan P A
on_head p go (Ok h) = go h
on_head p go (Err r) = refuse p r

-- an index wants two blocks of 64 bytes at least
abbrev pub is_fit : ℕ → ℕ → Bool
is_fit n size = nat_le 2 n && nat_le 64 size

abbrev pub when_fit : {P A : Type 0} → ℕ → ℕ → P → Plan P A → Plan P A
when_fit n size p go = cond (is_fit n size) go (refuse p Unfit)

module _ {K : Type 0} (κ : Kind K) (n size : ℕ) where
  abbrev pub with_head : {P A : Type 0} → P → (Head → Plan P A) → Plan P A
  with_head p go = look p 0 (λ bs. on_head p go (see_head κ n size bs))

module _ {K : Type 0} (κ : Kind K) (n : ℕ) where
  abbrev pub with_node : {P A : Type 0} → P → ℕ → Bool → ℕ → ℕ → (Node K → Plan P A) → Plan P A
  with_node p m is_leaf low b go = look p b (λ bs. on_seen p b go (see_node κ n m is_leaf low bs))

  unfoldable pub walk : {P A : Type 0} → P → ℕ → K → ℕ → Bool → ℕ → (Found K → Plan P A) → Plan P A
  walk p m k zero top b go = with_node p m true (least m top true) b (λ d. go (record { path = []; leaf = b; node = d }))
  walk p m k (suc h) top b go =
      with_node p m false (least m top false) b (λ d.
      let q = part κ k d.entries in
      walk p m k h false (last_kid d.link q.low) (λ f.
      go (record { path = record { block = b; link = d.link; before = q.low; behind = q.high } ∷ f.path; leaf = f.leaf; node = f.node })))
