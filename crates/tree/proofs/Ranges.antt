-- A range does not answer by itself that a block is unreadable.
use Rattle.std.proofs.Common.{ℕ, zero, suc, ◌-◌, Bool, true, false, cond, eqb, List, [], ◌++◌, Some, None, Option, arith}
use Rattle.keys.specs.Kind.{Kind}
use Rattle.store.specs.Meaning.{Meaning}
use Rattle.tree.specs.declared.rule.Rule.TheVariants.{Chain}
use Rattle.tree.specs.declared.refusal.Refusal.TheVariants.{Broken, Crossed, Unfit}
use Rattle.tree.specs.Laws.{Exactly, Unreadably, answer}
use Rattle.tree.specs.Nodes.{least, see_node}
use Rattle.tree.specs.Plans.{Plan}
use Rattle.tree.specs.Plans.Plan.{done, refuse}
use Rattle.tree.specs.Ranges.{Scan, after_leaf, chase, range_below, range_plan, scan}
use Rattle.tree.specs.Walks.{is_fit, when_fit, with_head}
use Rattle.tree.proofs.Laws.{exactly}
use Rattle.tree.proofs.Ways.{done_own, head_own, other, seen_own, walk_own}

module _ {K : Type 0} (κ : Kind K) (c : ℕ → List ℕ) (n : ℕ) (lo hi : K) where
  abbrev Next : Type 0
  Next = ℕ → List (K × ℕ) → ℕ → Plan (List (K × ℕ)) (List (K × ℕ) × Bool)

  after_own : (out : List (K × ℕ)) (s : Scan K) (link : ℕ) (next : Next) → ((cap : ℕ) (taken : List (K × ℕ)) (b : ℕ) → Unreadably (answer c (next cap taken b)) → ⊥)
      → (e : Option Bool) → Unreadably (answer c (after_leaf κ out s link next e)) → ⊥
  after_own out s link next o (Some more) = done_own c (out ++ s.taken, more)
  after_own out s link next o None = by_link (eqb link 0)
    where
      by_link : (b : Bool) → Unreadably (answer c (cond b (done (out ++ s.taken, false)) (next s.left (out ++ s.taken) link))) → ⊥
      by_link true = done_own c (out ++ s.taken, false)
      by_link false = o s.left (out ++ s.taken) link

  chase_own : (m fuel cap : ℕ) (out : List (K × ℕ)) (b : ℕ) → Unreadably (answer c (chase κ n m lo hi fuel cap out b)) → ⊥
  unfolding answer
  chase_own m zero cap out b u = other out (Broken Chain b) (λ e. omega arith) u
  chase_own m (suc fuel) cap out b u =
      seen_own c out b _ (λ d. after_own out (scan κ lo hi cap d.entries) d.link (chase κ n m lo hi fuel) (chase_own m fuel) (scan κ lo hi cap d.entries).end)
      (see_node κ n m true (least m false true) (c b)) u

  range_own : (size cap : ℕ) → Unreadably (answer c (range_plan κ n size lo hi cap)) → ⊥
  unfolding answer
  range_own size cap = by_order (κ.less hi lo)
    where
      by_fit : (b : Bool) → Unreadably {P = List (K × ℕ)} {A = List (K × ℕ) × Bool} (answer c (cond b (refuse [] Crossed) (refuse [] Unfit))) → ⊥
      by_fit true = other [] Crossed (λ e. omega arith)
      by_fit false = other [] Unfit (λ e. omega arith)

      by_order : (b : Bool) → Unreadably (answer c (when_fit n size [] (cond b (refuse [] Crossed) (with_head κ n size [] (range_below κ n lo hi cap))))) → ⊥
      by_order true = by_fit (is_fit n size)
      by_order false =
          head_own c κ n size [] (range_below κ n lo hi cap)
          (λ h. walk_own c κ n [] h.order lo (h.levels - 1) true h.root _
          (λ f. after_own [] (scan κ lo hi cap f.node.entries) f.node.link (chase κ n h.order lo hi (n - 2)) (chase_own h.order (n - 2)) (scan κ lo hi cap f.node.entries).end))

pub range_exactly : {K : Type 0} (κ : Kind K) (m : Meaning) (lo hi : K) (cap : ℕ) → Exactly m (range_plan κ m.count m.size lo hi cap)
range_exactly κ m lo hi cap = exactly m (range_plan κ m.count m.size lo hi cap) (range_own κ m.contents m.count lo hi m.size cap)
