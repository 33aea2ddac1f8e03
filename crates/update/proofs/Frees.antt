-- The free list, read block by block.
use Rattle.std.proofs.Common.{false, ◌≡◌, ℕ, suc, ◌+◌, ◌-◌, ◌<◌, ◌≤◌, List, [], ◌∷◌, ◌++◌, length, Some, None, Ok, Err, Option, Result, sym, ap, ◌∙◌, arith, ◌==◌}
use Rattle.keys.specs.Kind.{Kind}
use Rattle.std.proofs.lemmas.List.{append_assoc, append-nil, length_push}
use Rattle.std.proofs.lemmas.Bool.{le-leb, ne_eqb}
use Rattle.store.specs.declared.fault.Fault.{Fault}
use Rattle.store.specs.Calls.{refusal}
use Rattle.store.specs.Meaning.{Meaning, tallied}
use Rattle.tree.specs.declared.rule.Rule.TheVariants.{FreeList}
use Rattle.tree.specs.declared.refusal.Refusal.{Refusal}
use Rattle.tree.specs.declared.refusal.Refusal.TheVariants.{Broken, Unreadable}
use Rattle.tree.specs.Inserts.{with_frees}
use Rattle.tree.specs.Nodes.{Seen, see_free}
use Rattle.tree.specs.Nodes.Seen.{wrong, right}
use Rattle.tree.specs.Plans.{Stop, bare, on_read, run}
use Rattle.tree.specs.Plans.Plan.{done}
use Rattle.tree.specs.Walks.{on_seen}
use Rattle.update.specs.Frees.{free_answer, frees_from, frees_seen}

module _ {K : Type 0} (κ : Kind K) (m₀ : Meaning) (need first : ℕ) where
  abbrev whole : Result (List ℕ × ℕ) (Stop Unit) × Meaning
  whole = run m₀ (frees_from κ m₀.count m₀.size need first)

  -- what is left of reading `need` blocks after i of them, the blocks so far being xs
  abbrev left_of : Meaning → ℕ → ℕ → List ℕ → Result (List ℕ × ℕ) (Stop Unit) × Meaning
  left_of m i b xs = run m (with_frees κ m₀.count m₀.size tt (need - i) b (λ ys rest. done (xs ++ ys, rest)))

  pub record Going (m : Meaning) (i b : ℕ) (xs : List ℕ) : Type 0 where
    pub rest : whole ≡ left_of m i b xs
    pub count : m.count ≡ m₀.count
    pub size : m.size ≡ m₀.size
    pub pushed : length xs ≡ i
    pub contents : m.contents ≡ m₀.contents
    pub mark : m.mark ≡ m₀.mark
    pub seen : frees_seen m₀ need first ≡ xs ++ frees_seen m₀ (need - i) b

module _ {K : Type 0} {κ : Kind K} {m₀ : Meaning} {need first : ℕ} {m : Meaning} {i b : ℕ} {xs : List ℕ} (G : Going κ m₀ need first m i b xs) where
  module _ (l : i < need) where
    more : need - i ≡ suc (need - (i + 1))
    more = omega arith

    pub going_ended : b ≡ 0 → whole κ m₀ need first ≡ (bare (Err (Broken FreeList 0)), m)
    unfolding run
    going_ended e = G.rest ∙ rw (more, e)

    -- the list ends there, and so do the blocks that were seen
    pub seen_ended : b ≡ 0 → xs ≡ frees_seen m₀ need first
    unfolding frees_seen
    seen_ended e = sym (G.seen ∙ (rw (more, e) (append-nil xs)))

    -- reading changes the tally alone, so a block is answered as it was at the start
    same_answer : free_answer (refusal m b m.size) b (see_free m.count (m.contents b)) ≡ free_answer (refusal m₀ b m₀.size) b (see_free m₀.count (m₀.contents b))
    same_answer = rw (G.count, G.size, G.contents, G.mark)

    module _ (p : 1 ≤ b) {after : Meaning} (tallies : after ≡ tallied m) where
      abbrev seen : Seen ℕ
      seen = see_free m.count (m.contents b)

      abbrev next : Seen ℕ → Option Fault → Result (List ℕ × ℕ) (Stop Unit) × Meaning
      next s o = on_read o tt m (run (tallied m) (on_seen tt b (λ l. with_frees κ m₀.count m₀.size tt (need - (i + 1)) l (λ ys rest. done (xs ++ b ∷ ys, rest))) s))

      step : whole κ m₀ need first ≡ next seen (refusal m b m.size)
      unfolding run
      step = G.rest ∙ (rw (more, le-leb 1 b p) (ap (λ (x : ℕ). next (see_free x (m.contents b)) (refusal m b m.size)) (sym G.count)))

      not_zero : (b == 0) ≡ false
      not_zero = ne_eqb b 0 (λ (e : b ≡ 0). omega arith)

      module _ {e : Refusal} (h : Err e ≡ free_answer (refusal m b m.size) b seen) where
        pub going_stopped : whole κ m₀ need first ≡ (bare (Err e), after)
        unfolding run
        going_stopped = step ∙ by (refusal m b m.size) seen h
          where
            by : (o : Option Fault) (s : Seen ℕ) → Err e ≡ free_answer o b s → next s o ≡ (bare (Err e), after)
            by None (wrong r) h = let q : e ≡ Broken r b = cc in rw (q, tallies)
            by None (right d) h = absurd (let z : ◌≡◌ {A = ℕ} 0 1 = cc in omega arith)
            by (Some f) s h = let q : e ≡ Unreadable f = cc in rw (q, tallies)

        pub seen_stopped : xs ≡ frees_seen m₀ need first
        unfolding frees_seen
        seen_stopped = let a = sym (h ∙ same_answer) in sym (G.seen ∙ (rw (more, not_zero, a) (append-nil xs)))

      module _ {d : ℕ} (h : Ok d ≡ free_answer (refusal m b m.size) b seen) {ys : List ℕ} (e : ys ≡ xs ++ (b ∷ [])) where
        seen_on : frees_seen m₀ need first ≡ ys ++ frees_seen m₀ (need - (i + 1)) d
        unfolding frees_seen
        seen_on = let a = sym (h ∙ same_answer) in G.seen ∙ (rw (more, not_zero, a, e) (sym (append_assoc xs (b ∷ []) (frees_seen m₀ (need - (i + 1)) d))))

        pub going_on : Going κ m₀ need first after (i + 1) d ys
        unfolding run
        going_on =
            record {
              rest = step ∙ (by (refusal m b m.size) seen h ∙ rw e);
              count = ap (λ (x : Meaning). x.count) tallies ∙ G.count;
              size = ap (λ (x : Meaning). x.size) tallies ∙ G.size;
              pushed = ap length e ∙ (length_push xs b ∙ ap (λ k. k + 1) G.pushed);
              contents = ap (λ (x : Meaning). x.contents) tallies ∙ G.contents;
              mark = ap (λ (x : Meaning). x.mark) tallies ∙ G.mark;
              seen = seen_on;
            }
          where
            same : (l : ℕ) → run (tallied m) (with_frees κ m₀.count m₀.size tt (need - (i + 1)) l (λ ys rest. done (xs ++ b ∷ ys, rest))) ≡ left_of κ m₀ need first (tallied m) (i + 1) l (xs ++ (b ∷ []))
            same l = ap (λ (f : List ℕ → List ℕ). run (tallied m) (with_frees κ m₀.count m₀.size tt (need - (i + 1)) l (λ ys rest. done (f ys, rest)))) (λ j ys. sym (append_assoc xs (b ∷ []) ys) j)

            by : (o : Option Fault) (s : Seen ℕ) → Ok d ≡ free_answer o b s → next s o ≡ left_of κ m₀ need first after (i + 1) d (xs ++ (b ∷ []))
            by None (wrong r) h = absurd (let z : ◌≡◌ {A = ℕ} 0 1 = cc in omega arith)
            by None (right l) h = let q : l ≡ d = cc in rw (q, tallies) (same d)
            by (Some f) s h = absurd (let z : ◌≡◌ {A = ℕ} 0 1 = cc in omega arith)

  module _ (l : i ≡ need) where
    none_left : need - i ≡ 0
    none_left = omega arith

    pub going_done : whole κ m₀ need first ≡ (Ok (xs, b), m)
    unfolding run
    going_done = G.rest ∙ rw (none_left, append-nil xs)

    pub seen_done : xs ≡ frees_seen m₀ need first
    unfolding frees_seen
    seen_done = sym (G.seen ∙ (rw none_left (append-nil xs)))
