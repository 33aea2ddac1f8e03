-- Batches: one block more, and the writes made.
use Rattle.std.proofs.Common.{◌≡◌, ℕ, suc, ◌+◌, ◌<◌, false, true, ◌||◌, List, [], ◌∷◌, ◌++◌, map, reverse, length, get_or, take, drop, Some, None, Result, sym, refl, ap, ◌∙◌, add-one, arith, ◌==◌}
use Rattle.std.proofs.Math.Seq.{drop-cons, take-suc}
use Rattle.std.proofs.lemmas.Bool.{eq-eqb, lt-ltb}
use Rattle.std.proofs.lemmas.Bool.Decides.{nat_tests}
use Rattle.std.proofs.lemmas.List.{map-append, reverse-append, take-append-drop}
use Rattle.std.proofs.lemmas.List.Sorted.{IsPermutation-reverse, list_any-IsPermutation}
use Rattle.std.specs.List.{AllByRecursion, list_any}
use Rattle.store.specs.declared.fault.Fault.{Fault}
use Rattle.store.specs.Calls.{Wrote, misuse}
use Rattle.store.specs.Meaning.{Meaning, written}
use Rattle.tree.specs.Inserts.{Writes, or_repeated, put_all, repeated, stands}
use Rattle.update.specs.declared.batch.Write.{Write}
use Rattle.update.specs.Batches.{cut, stacked}

module _ (size : ℕ) where
  -- a block is named in writes, in whatever order
  stands_any : (b : ℕ) (ws : List Write) → stands b (map (cut size) ws) ≡ list_any (λ w. w.block == b) ws
  stands_any b [] = refl
  stands_any b (w ∷ ws) = rw (stands_any b ws) (ap (λ x. x || list_any (λ v. v.block == b) ws) (grind (arith, nat_tests)))

  stands_stacked : (b : ℕ) (ws : List Write) → stands b (stacked ws size) ≡ list_any (λ w. w.block == b) ws
  stands_stacked b ws = stands_any b (reverse ws) ∙ sym (list_any-IsPermutation (λ w. w.block == b) ws (reverse ws) (IsPermutation-reverse ws))

  stacked_append : (xs ys : List Write) → stacked (xs ++ ys) size ≡ stacked ys size ++ stacked xs size
  stacked_append xs ys = ap (map (cut size)) (reverse-append xs ys) ∙ map-append (cut size) (reverse ys) (reverse xs)

  -- a block that stands twice does so too where more is written after it
  repeated_on : (zs ws : Writes) (b : ℕ) → repeated ws ≡ Some b → repeated (zs ++ ws) ≡ Some b
  unfolding repeated
  repeated_on [] ws b h = h
  repeated_on (z ∷ zs) ws b h = rw (repeated_on zs ws b h)

  module _ (ws : List Write) (i : ℕ) (w : Write) (l : i < length ws) (e : repeated (stacked (take i ws) size) ≡ None) where
    abbrev here : Write
    here = get_or ws i w

    -- one write more
    one_more : repeated (stacked (take (suc i) ws) size) ≡ or_repeated None (list_any (λ v. v.block == here.block) (take i ws)) here.block
    unfolding repeated
    one_more =
        ap (λ (x : List Write). repeated (stacked x size)) (take-suc ws i w l)
        ∙ (ap repeated (stacked_append (take i ws) (here ∷ [])) ∙ rw (e, stands_stacked here.block (take i ws)))

    pub repeated_hit : true ≡ list_any (λ v. v.block == here.block) (take i ws) → Some here.block ≡ repeated (stacked ws size)
    repeated_hit h =
        let more = stacked_append (take (suc i) ws) (drop (suc i) ws) in
        let all = ap (λ (x : List Write). stacked x size) (take-append-drop (suc i) ws) in
        sym (ap repeated (sym all ∙ more) ∙ repeated_on (stacked (drop (suc i) ws) size) (stacked (take (suc i) ws) size) here.block (one_more ∙ rw (← h)))

    pub repeated_next : false ≡ list_any (λ v. v.block == here.block) (take i ws) → repeated (stacked (take (i + 1) ws) size) ≡ None
    repeated_next h = rw (add-one i) (one_more ∙ rw (← h))

-- the writes made, from the newest on
module _ (m : Meaning) (all : Writes) where
  -- what is left to write, once the first n are made
  pub record Left (n : ℕ) (now : Meaning) : Type 0 where
    pub rest : put_all m all ≡ put_all now (drop n all)
    pub count : now.count ≡ m.count
    pub size : now.size ≡ m.size
    pub inside : AllByRecursion (λ w. w.0 < m.count) (drop n all)

module _ {m : Meaning} {all : Writes} {n : ℕ} {now after : Meaning} {r : Result Unit Fault} {w : ℕ × List ℕ} (l : n < length all) (here : get_or all n w ≡ w)
    (L : Left m all n now) (fits : length w.1 ≡ m.size) (made : Wrote now w.0 w.1 r after) where
  more : drop n all ≡ w ∷ drop (suc n) all
  more = drop-cons all n w l ∙ ap (λ (x : ℕ × List ℕ). x ∷ drop (suc n) all) here

  pub left_next : Left m all (n + 1) after
  left_next =
      let a : AllByRecursion (λ w. w.0 < m.count) (w ∷ drop (suc n) all) = rw more at L.inside in
      let none : misuse now w.0 (length w.1) ≡ None = rw (lt-ltb w.0 now.count (let q = L.count in let p = a.0 in omega arith), eq-eqb (length w.1) now.size (let q = L.size in omega arith)) in
      let e : after ≡ written now w.0 w.1 = made.after ∙ rw none in
      rw (add-one n)
      (record {
        rest = L.rest ∙ (rw more (ap (λ (x : Meaning). put_all x (drop (suc n) all)) (sym e)));
        count = ap (λ (x : Meaning). x.count) e ∙ L.count;
        size = ap (λ (x : Meaning). x.size) e ∙ L.size;
        inside = a.1;
      })
