-- Range, as a plan. What stands in the caller's buffer is the list of entries taken so far.
--
--   Scan K                     what one leaf gives: the entries taken, how many more fit, and whether the range ends there,
--                              with more to come or without
--   scan κ lo hi cap es        the entries from lo to hi, at most cap of them
--   follow                     a leaf, and then the next where the range goes on
--   chase                      leaf after leaf, at most fuel of them
--   range_below κ n lo hi cap h       from the root on, by what the head says
--   range_plan κ n size lo hi cap     the whole call: the entries, and whether more remain
--   standing out               the entries that stand in the buffer when a range has ended
--   range_told t out           what a range answers that began at tally t
use Rattle.std.specs.Prelude.{ℕ, zero, suc, ◌-◌, Bool, true, false, cond, List, [], ◌∷◌, ◌++◌, length, Some, None, Ok, Err, Option, Result, ◌==◌}
use Rattle.keys.specs.Kind.{Kind}
use Rattle.tree.specs.declared.head.Head.{Head}
use Rattle.tree.specs.declared.rule.Rule.TheVariants.{Chain}
use Rattle.tree.specs.declared.refusal.RangeRefusal.{RangeRefusal}
use Rattle.tree.specs.declared.refusal.Refused.{Refused}
use Rattle.tree.specs.declared.refusal.Refusal.TheVariants.{Broken, Crossed}
use Rattle.tree.specs.Nodes.{Node, least}
use Rattle.tree.specs.Plans.{Outcome, Plan, Stop, rise}
use Rattle.tree.specs.Plans.Plan.{done, refuse}
use Rattle.tree.specs.Walks.{walk, when_fit, with_head, with_node}

pub record Scan (K : Type 0) : Type 0 where
  pub taken : List (K × ℕ)
  pub left : ℕ
  pub end : Option Bool

-- an entry of the range: taken where one more fits, else the range ends with more to come
abbrev pub take_one : {K : Type 0} → ℕ → K × ℕ → (ℕ → Scan K) → Scan K
take_one zero e go = record { taken = []; left = 0; end = Some true }
take_one (suc c) e go = let s = go c in record { taken = e ∷ s.taken; left = s.left; end = s.end }

module _ {K : Type 0} (κ : Kind K) where
  abbrev pub scan : K → K → ℕ → List (K × ℕ) → Scan K
  scan lo hi cap [] = record { taken = []; left = cap; end = None }
  scan lo hi cap (e ∷ es) =
      cond (κ.less e.0 lo) (scan lo hi cap es)
      (cond (κ.less hi e.0) (record { taken = []; left = cap; end = Some false }) (take_one cap e (λ c. scan lo hi c es)))

  abbrev Ranged : Type 0
  Ranged = Plan (List (K × ℕ)) (List (K × ℕ) × Bool)

  abbrev pub after_leaf : List (K × ℕ) → Scan K → ℕ → (ℕ → List (K × ℕ) → ℕ → Ranged) → Option Bool → Ranged
  after_leaf out s link next (Some more) = done (out ++ s.taken, more)
  after_leaf out s link next None = cond (link == 0) (done (out ++ s.taken, false)) (next s.left (out ++ s.taken) link)

  abbrev pub follow : K → K → ℕ → List (K × ℕ) → Node K → (ℕ → List (K × ℕ) → ℕ → Ranged) → Ranged
  follow lo hi cap out d next = let s = scan lo hi cap d.entries in after_leaf out s d.link next s.end

  -- a leaf more than the store has room for shows that the links go round
  abbrev pub chase : ℕ → ℕ → K → K → ℕ → ℕ → List (K × ℕ) → ℕ → Ranged
  chase n m lo hi zero cap out b = refuse out (Broken Chain b)
  chase n m lo hi (suc fuel) cap out b = with_node κ n out m true (least m false true) b (λ d. follow lo hi cap out d (chase n m lo hi fuel))

  abbrev pub range_below : ℕ → K → K → ℕ → Head → Ranged
  range_below n lo hi cap h =
      walk κ n [] h.order lo (h.levels - 1) true h.root (λ f. follow lo hi cap [] f.node (chase n h.order lo hi (n - 2)))

  abbrev pub range_plan : ℕ → ℕ → K → K → ℕ → Ranged
  range_plan n size lo hi cap = when_fit n size [] (cond (κ.less hi lo) (refuse [] Crossed) (with_head κ n size [] (range_below n lo hi cap)))

abbrev pub standing : {K : Type 0} → Result (List (K × ℕ) × Bool) (Stop (List (K × ℕ))) → List (K × ℕ)
standing (Ok a) = a.0
standing (Err s) = s.left

abbrev pub range_told : {K : Type 0} → ℕ → Outcome (List (K × ℕ)) (List (K × ℕ) × Bool) → Result ((ℕ × Bool) × ℕ) (Refused RangeRefusal)
range_told t (Ok a, m) = Ok ((length a.0, a.1), rise t m.tally)
range_told t (Err s, m) = Err (record { refusal = record { refusal = s.why; entries = length s.left }; reads = rise t m.tally })
