-- Where a key has its place among a node's entries, and the bytes of entries before and behind it.
use Rattle.std.proofs.Common.{◌≡◌, ℕ, zero, suc, ◌+◌, ◌*◌, ◌≤◌, Bool, true, false, cond, List, [], ◌∷◌, ◌++◌, length, get_or, take, drop, Some, None, Option, sym, refl, ap, ◌∙◌, suc-mul, arith, length-drop}
use Rattle.keys.specs.Bytes.{big_endian}
use Rattle.keys.specs.Kind.{Kind, Lawful}
use Rattle.page.proofs.Gathers.{drop_bytes, entry_bytes, take_two}
use Rattle.page.proofs.Scans.{entries_append, entries_length}
use Rattle.page.proofs.Seen.{seen_right}
use Rattle.page.specs.Rows.{place_at, place_by}
use Rattle.std.proofs.lemmas.List.{drop_at, take_at}
use Rattle.store.specs.Bytes.{Bytes}
use Rattle.tree.specs.Entries.{join_entry, key_of, number_of, part, part_at, past, see_entries, write_entries}
use Rattle.tree.specs.Nodes.{Node, see_node}
use Rattle.tree.specs.Nodes.Seen.{right}

module _ {K : Type 0} (κ : Kind K) where
  pub part_whole : (k : K) (es : List (K × ℕ)) → (part κ k es).low ++ (part κ k es).high ≡ es
  unfolding part
  part_whole k [] = refl
  part_whole k (e ∷ es) = go (κ.less k e.0) (part_whole k es)
    where
      go : (p : Bool) → (part κ k es).low ++ (part κ k es).high ≡ es → (part_at p e es (part κ k es)).low ++ (part_at p e es (part κ k es)).high ≡ e ∷ es
      go true i = refl
      go false i = ap (λ (l : List (K × ℕ)). e ∷ l) i

  place_entries : (k : K) (a n : ℕ) (bs : List ℕ) (es : List (K × ℕ)) → see_entries κ n bs ≡ Some es → place_at κ k a n bs ≡ a + length (part κ k es).low
  unfolding see_entries place_at part
  place_entries k a zero bs es h = let e : es ≡ [] = some_same h in rw e (omega arith)
    where
      some_same : Some [] ≡ Some es → es ≡ []
      some_same p = cc
  place_entries k a (suc n) bs es h = go (key_of κ bs) (see_entries κ n (past κ bs)) refl h (λ fs e. place_entries k (a + 1) n (past κ bs) fs e)
    where
      by : (t : Bool) (x : ℕ) (e : K × ℕ) (fs : List (K × ℕ)) → x ≡ a + 1 + length (part κ k fs).low → cond t a x ≡ a + length (part_at t e fs (part κ k fs)).low
      by true x e fs h = omega arith
      by false x e fs h = omega arith

      go : (o : Option K) (r : Option (List (K × ℕ))) → see_entries κ n (past κ bs) ≡ r → join_entry o (number_of κ bs) r ≡ Some es
          → ((fs : List (K × ℕ)) → see_entries κ n (past κ bs) ≡ Some fs → place_at κ k (a + 1) n (past κ bs) ≡ a + 1 + length (part κ k fs).low)
          → place_by κ k a o (place_at κ k (a + 1) n (past κ bs)) ≡ a + length (part κ k es).low
      go None r e p i = absurd (let z : ◌≡◌ {A = ℕ} 0 1 = cc in omega arith)
      go (Some j) None e p i = absurd (let z : ◌≡◌ {A = ℕ} 0 1 = cc in omega arith)
      go (Some j) (Some fs) e p i =
          let q : es ≡ (j, number_of κ bs) ∷ fs = cc in
          rw q (by (κ.less k j) (place_at κ k (a + 1) n (past κ bs)) (j, number_of κ bs) fs (i fs e))

  pub place_is : (k : K) (n m : ℕ) (leaf : Bool) (low : ℕ) (bs : List ℕ) (d : Node K) → see_node κ n m leaf low bs ≡ right d → place_at κ k 0 (get_or bs 1 0) (drop 8 bs) ≡ length (part κ k d.entries).low
  place_is k n m leaf low bs d h = place_entries k 0 (get_or bs 1 0) (drop 8 bs) d.entries (seen_right κ n m leaf low bs d h).entries ∙ omega arith

  entries_count : (n : ℕ) (bs : List ℕ) (es : List (K × ℕ)) → see_entries κ n bs ≡ Some es → length es ≡ n
  unfolding see_entries
  entries_count zero bs es h = let e : es ≡ [] = some_same h in rw e
    where
      some_same : Some [] ≡ Some es → es ≡ []
      some_same p = cc
  entries_count (suc n) bs es h = go (key_of κ bs) (see_entries κ n (past κ bs)) refl h (λ fs e. entries_count n (past κ bs) fs e)
    where
      go : (o : Option K) (r : Option (List (K × ℕ))) → see_entries κ n (past κ bs) ≡ r → join_entry o (number_of κ bs) r ≡ Some es
          → ((fs : List (K × ℕ)) → see_entries κ n (past κ bs) ≡ Some fs → length fs ≡ n) → length es ≡ suc n
      go None r e p i = absurd (let z : ◌≡◌ {A = ℕ} 0 1 = cc in omega arith)
      go (Some j) None e p i = absurd (let z : ◌≡◌ {A = ℕ} 0 1 = cc in omega arith)
      go (Some j) (Some fs) e p i = let q : es ≡ (j, number_of κ bs) ∷ fs = cc in rw q (ap suc (i fs e))

  pub node_count : (n m : ℕ) (leaf : Bool) (low : ℕ) (bs : List ℕ) (d : Node K) → see_node κ n m leaf low bs ≡ right d → length d.entries ≡ get_or bs 1 0
  node_count n m leaf low bs d h = entries_count (get_or bs 1 0) (drop 8 bs) d.entries (seen_right κ n m leaf low bs d h).entries

  module _ (L : Lawful κ) where
    -- the bytes of a node's entries are those that the entries are written in
    entries_bytes : (n : ℕ) (bs : List ℕ) (es : List (K × ℕ)) → see_entries κ n bs ≡ Some es → n * (κ.width + 4) ≤ length bs → Bytes bs → take (n * (κ.width + 4)) bs ≡ write_entries κ es
    unfolding see_entries write_entries
    entries_bytes zero bs es h f p =
        let z : 0 * (κ.width + 4) ≡ 0 = omega arith in
        let e : es ≡ [] = some_same h in
        rw (z, e)
      where
        some_same : Some [] ≡ Some es → es ≡ []
        some_same q = cc
    entries_bytes (suc n) bs es h f p =
        let k : n * (κ.width + 4) ≤ length (past κ bs) = simp length-drop (omega (arith, suc-mul n (κ.width + 4))) in
        go (key_of κ bs) (see_entries κ n (past κ bs)) refl refl h (λ fs e. entries_bytes n (past κ bs) fs e k (drop_bytes (κ.width + 4) bs p))
      where
        go : (o : Option K) (r : Option (List (K × ℕ))) → key_of κ bs ≡ o → see_entries κ n (past κ bs) ≡ r → join_entry o (number_of κ bs) r ≡ Some es
            → ((fs : List (K × ℕ)) → see_entries κ n (past κ bs) ≡ Some fs → take (n * (κ.width + 4)) (past κ bs) ≡ write_entries κ fs) → take (suc n * (κ.width + 4)) bs ≡ write_entries κ es
        go None r a e q i = absurd (let z : ◌≡◌ {A = ℕ} 0 1 = cc in omega arith)
        go (Some j) None a e q i = absurd (let z : ◌≡◌ {A = ℕ} 0 1 = cc in omega arith)
        go (Some j) (Some fs) a e q i =
            let w = κ.width + 4 in
            let s : es ≡ (j, number_of κ bs) ∷ fs = cc in
            let one : κ.write j ++ big_endian 4 (number_of κ bs) ≡ take w bs = entry_bytes κ L bs j a (omega (arith, suc-mul n w)) p in
            let z : suc n * w ≡ w + n * w = omega (arith, suc-mul n w) in
            rw (s, z) (sym (take_two w (n * w) bs (omega arith)) ∙ (ap (λ (x : List ℕ). take w bs ++ x) (i fs e) ∙ ap (λ (x : List ℕ). x ++ write_entries κ fs) (sym one)))

    pub node_bytes : (n m : ℕ) (leaf : Bool) (low : ℕ) (bs : List ℕ) (d : Node K) → see_node κ n m leaf low bs ≡ right d → 8 + get_or bs 1 0 * (κ.width + 4) ≤ length bs → Bytes bs
        → take (get_or bs 1 0 * (κ.width + 4)) (drop 8 bs) ≡ write_entries κ d.entries
    node_bytes n m leaf low bs d h f p =
        entries_bytes (get_or bs 1 0) (drop 8 bs) d.entries (seen_right κ n m leaf low bs d h).entries (simp length-drop (omega arith)) (drop_bytes 8 bs p)

    -- the first of them, and the others
    pub front_bytes : (xs ys : List (K × ℕ)) → take (length xs * (κ.width + 4)) (write_entries κ (xs ++ ys)) ≡ write_entries κ xs
    front_bytes xs ys = ap (take (length xs * (κ.width + 4))) (entries_append κ xs ys) ∙ take_at (write_entries κ xs) (write_entries κ ys) (length xs * (κ.width + 4)) (entries_length κ L xs)

    pub back_bytes : (xs ys : List (K × ℕ)) → drop (length xs * (κ.width + 4)) (write_entries κ (xs ++ ys)) ≡ write_entries κ ys
    back_bytes xs ys = ap (drop (length xs * (κ.width + 4))) (entries_append κ xs ys) ∙ drop_at (write_entries κ xs) (write_entries κ ys) (length xs * (κ.width + 4)) (entries_length κ L xs)
