-- Look-ups on a sound file.
use Rattle.std.proofs.Common.{◌≡◌, ℕ, zero, suc, ◌+◌, ◌-◌, ◌*◌, ◌%◌, ◌^◌, ◌<◌, ◌≤◌, Bool, true, false, cond, ltb, leb, List, [], ◌∷◌, ◌++◌, map, length, Some, Ok, Err, Option, Result, sym, refl, ap, ◌∙◌, subst, arith}
use Rattle.std.proofs.lemmas.List.{append-nil}
use Rattle.std.proofs.lemmas.Bool.{and_from, and_parts, eq-eqb, le-leb, lt-ltb, ltb-true}
use Rattle.std.specs.List.{AllByRecursion}
use Rattle.keys.specs.Kind.{Kind, Lawful}
use Rattle.store.specs.declared.fault.Fault.{Fault}
use Rattle.store.specs.Calls.{refusal}
use Rattle.store.specs.Meaning.{Meaning, tallied}
use Rattle.tree.specs.declared.head.Head.{Head}
use Rattle.tree.specs.declared.refusal.Refusal.{Refusal}
use Rattle.tree.specs.declared.refusal.Refusal.TheVariants.{Unfit, Unreadable}
use Rattle.tree.specs.Calls.{count_plan, find_below, find_plan}
use Rattle.tree.specs.Entries.{lookup}
use Rattle.tree.specs.SoundCalls.{Counts, Ends, Finds, way}
use Rattle.tree.specs.SoundCalls.Ends.{answered, refused}
use Rattle.tree.specs.Laws.{Clear, Ended, Exactly, answer, tallied_by}
use Rattle.tree.specs.Laws.Ended.{stopped, whole}
use Rattle.tree.specs.Nodes.{is_block, kids_fit, least_kids, least_leaf, numbers_fit}
use Rattle.tree.specs.Plans.{Plan, Stop, reading, rise, run, told}
use Rattle.tree.specs.Plans.Plan.{done, refuse}
use Rattle.tree.specs.Sound.{Sound, map_of}
use Rattle.tree.specs.Trees.{EachNode, Tree, block_of, kid_for, trail}
use Rattle.tree.specs.Walks.{Found, is_fit, on_head, walk, when_fit, with_head}
use Rattle.tree.proofs.Laws.{exactly, kept}
use Rattle.tree.proofs.Lookups.{found_right, kid_has, leaves_rise}
use Rattle.tree.proofs.Shown.{all_map, head_seen, sound_shows}
use Rattle.tree.proofs.FewReads.{carried_most, few_levels}
use Rattle.tree.proofs.Sizes.{many_keys}
use Rattle.tree.proofs.Ways.{done_own, found_in, head_own, trail_length, walk_answers, walk_own, walk_reads}

-- how far the tally rises
tally_by : (i : ℕ) (m : Meaning) → m.tally < 2 ^ 64 → (tallied_by i m).tally ≡ (m.tally + i) % 2 ^ 64
unfolding tallied_by
tally_by zero m l = omega arith
tally_by (suc i) m l = tally_by i (tallied m) (omega arith) ∙ omega arith

rise_by : (i : ℕ) (m : Meaning) → m.tally < 2 ^ 64 → i < 2 ^ 64 → rise m.tally (tallied_by i m).tally ≡ i
rise_by i m l j = ap (rise m.tally) (tally_by i m l) ∙ omega arith

module _ {K : Type 0} (κ : Kind K) (n : ℕ) where
  fits_inside : (h : ℕ) (xs : List (K × Tree K h)) → kids_fit κ n (map (λ x. (x.0, block_of K h x.1)) xs) ≡ true → AllByRecursion (λ (x : K × Tree K h). block_of K h x.1 < n) xs
  unfolding kids_fit
  fits_inside h [] f = tt
  fits_inside h (x ∷ xs) f =
      let p = and_parts (is_block n (block_of K h x.1)) (kids_fit κ n (map (λ x. (x.0, block_of K h x.1)) xs)) f in
      (ltb-true (block_of K h x.1) n (and_parts (ltb 0 (block_of K h x.1)) (ltb (block_of K h x.1) n) p.0).1, fits_inside h xs p.1)

  -- the way to a leaf stays inside the store
  trail_inside : (L : Lawful κ) (h : ℕ) (top : Bool) (k : K) (t : Tree K h) → block_of K h t < n → EachNode (λ is_leaf top b d. numbers_fit κ n is_leaf d ≡ true) h top t
      → AllByRecursion (λ b. b < n) (trail κ h k t)
  trail_inside L zero top k t l f = (l, tt)
  trail_inside L (suc h) top k t l f =
      let first = block_of K h t.first in
      let p = and_parts (is_block n first) (kids_fit κ n (map (λ x. (x.0, block_of K h x.1)) t.rest)) f.0 in (
        l,
        trail_inside L h false k (kid_for κ k t.first t.rest)
            (kid_has κ L k (λ (u : Tree K h). block_of K h u < n) t.first t.rest (ltb-true first n (and_parts (ltb 0 first) (ltb first n) p.0).1) (fits_inside h t.rest p.1))
            (kid_has κ L k (EachNode (λ is_leaf top b d. numbers_fit κ n is_leaf d ≡ true) h false) t.first t.rest f.1 f.2),
      )

module _ {K : Type 0} {κ : Kind K} {n size : ℕ} {c : ℕ → List ℕ} (S : Sound κ n size c) where
  fit : is_fit n size ≡ true
  fit = and_from (leb 2 n) (leb 64 size) (le-leb 2 n S.two_blocks) (le-leb 64 size S.wide_blocks)

  lowest : S.head.levels - 1 ≡ S.height
  lowest = let e = S.levels in omega arith

  module _ {P A : Type 0} (p : P) where
    pub head_reads : (go : Head → Plan P A) → reading c (when_fit n size p (with_head κ n size p go)) ≡ 0 ∷ reading c (go S.head)
    unfolding reading
    head_reads go = rw (fit, head_seen S)

    pub head_answers : (go : Head → Plan P A) → answer c (when_fit n size p (with_head κ n size p go)) ≡ answer c (go S.head)
    unfolding answer
    head_answers go = ap (λ (b : Bool). answer c (cond b (with_head κ n size p go) (refuse p Unfit))) fit ∙ ap (λ (s : Result Head Refusal). answer c (on_head p go s)) (head_seen S)

    pub down_reads : (k : K) (go : Found K → Plan P A)
        → reading c (walk κ n p S.head.order k (S.head.levels - 1) true S.head.root go) ≡ trail κ S.height k S.tree ++ reading c (go (found_in κ S.height k S.tree))
    down_reads k go =
        ap (λ (j : ℕ). reading c (walk κ n p S.head.order k j true S.head.root go)) lowest
        ∙ (ap (λ (b : ℕ). reading c (walk κ n p S.head.order k S.height true b go)) (sym S.root)
        ∙ walk_reads κ n S.head.order c p k S.height true S.tree go (sound_shows S))

    pub down_answers : (k : K) (go : Found K → Plan P A)
        → answer c (walk κ n p S.head.order k (S.head.levels - 1) true S.head.root go) ≡ answer c (go (found_in κ S.height k S.tree))
    down_answers k go =
        ap (λ (j : ℕ). answer c (walk κ n p S.head.order k j true S.head.root go)) lowest
        ∙ (ap (λ (b : ℕ). answer c (walk κ n p S.head.order k S.height true b go)) (sym S.root)
        ∙ walk_answers κ n S.head.order c p k S.height true S.tree go (sound_shows S))

  find_reads : (k : K) → reading c (find_plan κ n size k) ≡ way S k
  unfolding reading
  find_reads k = head_reads tt (find_below κ n size k) ∙ ap (λ (z : List ℕ). 0 ∷ z) (down_reads tt k _ ∙ append-nil (trail κ S.height k S.tree))

  find_answers : Lawful κ → (k : K) → answer c (find_plan κ n size k) ≡ Ok (lookup κ k (map_of S))
  unfolding answer
  find_answers L k = head_answers tt (find_below κ n size k) ∙ (down_answers tt k _ ∙ ap (λ (o : Option ℕ). Ok o) (found_right κ L k S.height true S.tree S.keys_rise S.parted))

  way_inside : Lawful κ → (k : K) → AllByRecursion (λ b. b < n) (way S k)
  way_inside L k = (
    let l = S.two_blocks in omega arith,
    trail_inside κ n L S.height true k S.tree (subst (λ (b : ℕ). b < n) (sym S.root) S.root_bounds.1) S.numbers_bounds,
  )

-- a block inside the store is refused by its mark alone
mark_refuses : (m : Meaning) (b : ℕ) (f : Fault) → b < m.count → refusal m b m.size ≡ Some f → m.mark b ≡ Some f
mark_refuses m b f l h = let e = lt-ltb b m.count l in let s = eq-eqb m.size m.size refl in rw (e, s) at h

all_at : (P : ℕ → Type 0) (xs : List ℕ) (b : ℕ) (ys : List ℕ) → AllByRecursion P (xs ++ b ∷ ys) → P b
all_at P [] b ys a = a.0
all_at P (x ∷ xs) b ys a = all_at P xs b ys a.1

length_part : (xs : List ℕ) (b : ℕ) (ys : List ℕ) → length xs < length (xs ++ b ∷ ys)
length_part [] b ys = omega arith
length_part (x ∷ xs) b ys = let i = length_part xs b ys in omega arith

-- a plan whose reading list is inside the store, and that answers a by itself
pub ends_by : {A : Type 0} (m : Meaning) (plan : Plan (Unit {0}) A) (bs : List ℕ) (a : A) → m.tally < 2 ^ 64 → length bs < 2 ^ 64 → AllByRecursion (λ b. b < m.count) bs
    → reading m.contents plan ≡ bs → answer m.contents plan ≡ Ok a → Ends m.mark bs a (told m.tally (run m plan))
ends_by {A} m plan bs a t l inside r e = go (subst (λ (xs : List ℕ). Ended m xs (answer m.contents plan) (run m plan)) r (kept m plan))
  where
    go : Ended m bs (answer m.contents plan) (run m plan) → Ends m.mark bs a (told m.tally (run m plan))
    go (whole w q) =
        answered (all_map (λ (b : ℕ) (x : Clear m b). x.1) bs w)
        (ap (told m.tally) q ∙ (ap (λ (x : Result A (Stop (Unit {0}))). told m.tally (x, tallied_by (length bs) m)) e ∙ ap (λ (i : ℕ). Ok (a, i)) (rise_by (length bs) m t l)))
    go (stopped xs b ys f p w u v q) =
        let s = subst (λ (zs : List ℕ). length zs < 2 ^ 64) w l in
        let z = length_part xs b ys in
        refused xs b ys f w (all_map (λ (x : ℕ) (y : Clear m x). y.1) xs u) (mark_refuses m b f (all_at (λ (x : ℕ). x < m.count) xs b ys (subst (AllByRecursion (λ (x : ℕ). x < m.count)) w inside)) v)
        (ap (told m.tally) q ∙ ap (λ (i : ℕ). Err (record { refusal = Unreadable f; reads = i })) (rise_by (suc (length xs)) m t (omega arith) ∙ omega arith))

pub find_sound : {K : Type 0} (κ : Kind K) → Lawful κ → (m : Meaning) → m.tally < 2 ^ 64 → (S : Sound κ m.count m.size m.contents) (k : K)
    → Finds m S k (told m.tally (run m (find_plan κ m.count m.size k)))
find_sound κ L m t S k =
    let n : length (way S k) ≡ S.head.levels + 1 = ap suc (trail_length κ S.height k S.tree) ∙ (let e = S.levels in omega arith) in
    let few = S.levels_bounds.1 in
    let ends = ends_by m (find_plan κ m.count m.size k) (way S k) (lookup κ k (map_of S)) t (omega arith) (way_inside S L k) (find_reads S k) (find_answers S L k) in
    record {
      reads = find_reads S k;
      many = n;
      ends = ends;
      ordered = leaves_rise κ L k S.height true S.tree S.keys_rise S.parted;
      shallow = many_keys S;
      four = λ order keys.
          let low = few_levels S.head.levels (length (map_of S)) (subst (λ (o : ℕ). 2 ≤ S.head.levels → 2 * (least_leaf o * least_kids o ^ (S.head.levels - 2)) ≤ length (map_of S)) order (many_keys S)) keys in
          let most = carried_most m.mark (way S k) (lookup κ k (map_of S)) _ ends in
          omega arith;
    }

-- on every file
pub find_exactly : {K : Type 0} (κ : Kind K) (m : Meaning) (k : K) → Exactly m (find_plan κ m.count m.size k)
find_exactly κ m k =
    exactly m (find_plan κ m.count m.size k)
    (head_own m.contents κ m.count m.size tt (find_below κ m.count m.size k)
    (λ h. walk_own m.contents κ m.count tt h.order k (h.levels - 1) true h.root _ (λ f. done_own m.contents (lookup κ k f.node.entries))))

pub count_sound : {K : Type 0} (κ : Kind K) (m : Meaning) → m.tally < 2 ^ 64 → (S : Sound κ m.count m.size m.contents) → Counts m S (told m.tally (run m (count_plan κ m.count m.size)))
unfolding reading answer
count_sound κ m t S =
    let reads = head_reads S {A = ℕ} tt (λ h. done h.key_count) in
    let answers : answer m.contents (count_plan κ m.count m.size) ≡ Ok (length (map_of S)) = head_answers S {A = ℕ} tt (λ h. done h.key_count) ∙ ap (λ (i : ℕ). Ok i) (sym S.key_count) in
    let two = S.two_blocks in
    record { reads = reads; ends = ends_by m (count_plan κ m.count m.size) (0 ∷ []) (length (map_of S)) t (omega arith) (omega arith, tt) reads answers }

pub count_exactly : {K : Type 0} (κ : Kind K) (m : Meaning) → Exactly m (count_plan κ m.count m.size)
count_exactly κ m = exactly m (count_plan κ m.count m.size) (head_own m.contents κ m.count m.size tt _ (λ h. done_own m.contents h.key_count))
