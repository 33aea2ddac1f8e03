-- A range before its first leaf.
use Rattle.std.proofs.Common.{◌≡◌, ℕ, ◌+◌, ◌-◌, ◌/◌, Bool, true, false, List, [], length, Ok, Err, Result, sym, refl, ap, ◌∙◌, subst}
use Rattle.index.proofs.Steps.{head_step, walk_then}
use Rattle.index.specs.Leaves.{Leaf, Reached, continued, leaf_from}
use Rattle.index.specs.Rangings.{RangeEnd, ended, entries_of}
use Rattle.index.specs.Readings.{head_answer}
use Rattle.keys.specs.Kind.{Kind}
use Rattle.store.specs.Calls.{refusal}
use Rattle.store.specs.Meaning.{Meaning, tallied}
use Rattle.tree.specs.declared.head.Head.{Head}
use Rattle.tree.specs.declared.refusal.RangeRefusal.{RangeRefusal}
use Rattle.tree.specs.Refusals.{before_entries}
use Rattle.tree.specs.declared.refusal.Refusal.{Refusal}
use Rattle.tree.specs.declared.refusal.Refusal.TheVariants.{Crossed}
use Rattle.tree.specs.Entries.{write_entries}
use Rattle.tree.specs.Heads.{see_head}
use Rattle.tree.specs.Nodes.{Node, see_node}
use Rattle.tree.specs.Plans.{Outcome, Plan, run}
use Rattle.tree.specs.Ranges.{chase, follow, range_below, range_plan}
use Rattle.tree.specs.Walks.{is_fit, with_head}

-- a range that is refused before its first leaf
pub nothing_yet : {K : Type 0} (κ : Kind K) (buf : List ℕ) (after : Meaning) (e : Refusal) (out : Outcome (List (K × ℕ)) (List (K × ℕ) × Bool)) (r : Result (ℕ × Bool) RangeRefusal)
    → r ≡ Err (before_entries e) → out ≡ (Err (record { left = []; why = e }), after) → RangeEnd κ buf r buf after out
unfolding write_entries
nothing_yet κ buf after e out r q h =
    record { out = []; number = ap entries_of q; filled = refl; came = h ∙ ap (λ (s : Result (ℕ × Bool) RangeRefusal). (ended [] s, after)) (sym q) }

pub leaf_there : {K : Type 0} (κ : Kind K) (n n' order : ℕ) (page : List ℕ) (d : Node K) → n' ≡ n → Leaf κ n order page d → Leaf κ n' order page d
leaf_there κ n n' order page d e l = record { low = l.low; seen = ap (λ (x : ℕ). see_node κ x order true l.low page) e ∙ l.seen }

module _ {K : Type 0} (κ : Kind K) (lo hi : K) (buf : List ℕ) (m m' : Meaning) (tallies : m' ≡ tallied m) (d : Head)
    (seen : Ok d ≡ head_answer (refusal m 0 m.size) (see_head κ m.count m.size (m.contents 0))) where
  abbrev cap : ℕ
  cap = length buf / (κ.width + 4)

  abbrev go : ℕ → Node K → Plan (List (K × ℕ)) (List (K × ℕ) × Bool)
  go n x = follow κ lo hi cap [] x (chase κ n d.order lo hi (n - 2))

  abbrev whole : Outcome (List (K × ℕ)) (List (K × ℕ) × Bool)
  whole = run m (with_head κ m.count m.size [] (range_below κ m.count lo hi cap))

  opened : whole ≡ continued [] (go m'.count) (run m' (leaf_from κ m'.count d.order lo (d.levels - 1) true d.root))
  opened =
      head_step κ m m' tallies [] (range_below κ m.count lo hi cap) d seen
      ∙ (ap (λ (x : ℕ). run m' (range_below κ x lo hi cap d)) (sym (ap (λ (x : Meaning). x.count) tallies))
      ∙ walk_then κ m'.count d.order lo [] (go m'.count) (d.levels - 1) true d.root m')

  module _ (after : Meaning) (page : List ℕ) where
    pub not_reached : (e : Refusal) (r : Result (ℕ × Bool) RangeRefusal) → r ≡ Err (before_entries e) → Reached κ m' d.order lo (d.levels - 1) d.root (Err e) page after → RangeEnd κ buf r buf after whole
    not_reached e r q R = nothing_yet κ buf after e whole r q (opened ∙ ap (λ (o : Outcome Unit (Node K)). continued [] (go m'.count) o) R)

    pub first_reached : (R : Reached κ m' d.order lo (d.levels - 1) d.root (Ok tt) page after) → after.count ≡ m'.count
        → (r : Result (ℕ × Bool) RangeRefusal) (buf' : List ℕ) (end : Meaning)
        → RangeEnd κ buf r buf' end (run after (follow κ lo hi cap [] R.0 (chase κ after.count d.order lo hi (after.count - 2))))
        → RangeEnd κ buf r buf' end whole
    first_reached R c r buf' end x =
        subst (RangeEnd κ buf r buf' end)
        (sym (opened ∙ (ap (λ (o : Outcome Unit (Node K)). continued [] (go m'.count) o) R.1 ∙ ap (λ (n : ℕ). run after (go n R.0)) (sym c))))
        x

-- the tests before any read
module _ {K : Type 0} (κ : Kind K) (lo hi : K) (cap : ℕ) (m : Meaning) (n size : ℕ) (en : n ≡ m.count) (es : size ≡ m.size) where
  fit_is : (b : Bool) → b ≡ is_fit n size → is_fit m.count m.size ≡ b
  fit_is b h = ap (λ (x : ℕ). is_fit x m.size) (sym en) ∙ (ap (λ (x : ℕ). is_fit n x) (sym es) ∙ sym h)

  pub range_crossed : true ≡ is_fit n size → true ≡ κ.less hi lo → run m (range_plan κ m.count m.size lo hi cap) ≡ (Err (record { left = []; why = Crossed }), m)
  unfolding run
  range_crossed f l = rw (fit_is true f, sym l)

  pub range_opens : true ≡ is_fit n size → false ≡ κ.less hi lo
      → run m (with_head κ m.count m.size [] (range_below κ m.count lo hi cap)) ≡ run m (range_plan κ m.count m.size lo hi cap)
  range_opens f l = sym (rw (fit_is true f, sym l))
