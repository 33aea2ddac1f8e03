-- How many keys a tree of some levels has at least.
use Rattle.std.proofs.Common.{◌≡◌, ℕ, zero, suc, ◌-◌, ◌*◌, ◌^◌, ◌≤◌, Bool, true, false, List, [], ◌∷◌, length, drop, Some, None, Option, sym, refl, ap, ◌∙◌, subst, mul_assoc, suc-mul, mul_comm, pow-suc, mul-one, arith}
use native.Mathlib.Nat.{pow-zero}
use Rattle.std.proofs.lemmas.Nat.{mul-le}
use Rattle.std.proofs.lemmas.List.{length-append, length-map}
use Rattle.std.specs.List.{flat_map, AllByRecursion}
use Rattle.keys.specs.Kind.{Kind}
use Rattle.tree.specs.Entries.{join_entry, key_of, number_of, past, see_entries}
use Rattle.tree.specs.Fields.{u8_at}
use Rattle.tree.specs.Nodes.{Node, least, least_kids, least_leaf}
use Rattle.tree.specs.Sound.{Sound, map_of}
use Rattle.tree.specs.Trees.{EachNode, Tree, block_of, entries_of}
use Rattle.tree.proofs.Shown.{Both, all_map, each_both, each_map}

-- as many entries are seen as are asked for
see_length : {K : Type 0} (κ : Kind K) (n : ℕ) (bs : List ℕ) (es : List (K × ℕ)) → see_entries κ n bs ≡ Some es → length es ≡ n
unfolding see_entries
see_length κ zero bs es e = let q : [] ≡ es = cc in ap length (sym q)
see_length {K} κ (suc n) bs es e = go (key_of κ bs) (see_entries κ n (past κ bs)) refl (λ fs q. see_length κ n (past κ bs) fs q) e
  where
    go : (o : Option K) (s : Option (List (K × ℕ))) → see_entries κ n (past κ bs) ≡ s → ((fs : List (K × ℕ)) → see_entries κ n (past κ bs) ≡ Some fs → length fs ≡ n) → join_entry o (number_of κ bs) s ≡ Some es → length es ≡ suc n
    go None s q i j = absurd (let z : ◌≡◌ {A = ℕ} 0 1 = cc in omega arith)
    go (Some k) None q i j = absurd (let z : ◌≡◌ {A = ℕ} 0 1 = cc in omega arith)
    go (Some k) (Some fs) q i j = let w : (k, number_of κ bs) ∷ fs ≡ es = cc in ap length (sym w) ∙ ap suc (i fs q)

module _ (K : Type 0) (m : ℕ) where
  abbrev Filled : (h : ℕ) → Bool → Tree K h → Type 0
  Filled = EachNode (λ is_leaf top b d. least m top is_leaf ≤ length d.entries)

  row_many : (w h : ℕ) (xs : List (K × Tree K h)) → AllByRecursion (λ (x : K × Tree K h). w ≤ length (entries_of K h x.1)) xs → length xs * w ≤ length (flat_map (λ x. entries_of K h x.1) xs)
  row_many w h [] a = omega arith
  row_many w h (x ∷ xs) a =
      let i = row_many w h xs a.1 in
      omega (arith, suc-mul (length xs) w, a.0, length-append (entries_of K h x.1) (flat_map (λ x. entries_of K h x.1) xs))

  -- a subtree below the root
  below_many : (h : ℕ) (t : Tree K h) → Filled h false t → least_leaf m * least_kids m ^ h ≤ length (entries_of K h t)
  below_many zero t f = rw (pow-zero, mul-one) f
  below_many (suc h) t f =
      let w = least_leaf m * least_kids m ^ h in
      let a = below_many h t.first f.1 in
      let b = row_many w h t.rest (all_map (λ (x : K × Tree K h) (g : Filled h false x.1). below_many h x.1 g) t.rest f.2) in
      let n : least_kids m ≤ suc (length t.rest) = omega (arith, f.0, length-map {B = K × ℕ} t.rest (λ (x : K × Tree K h). (x.0, block_of K h x.1))) in
      let e : least_leaf m * least_kids m ^ suc h ≡ least_kids m * w =
      ap (λ (x : ℕ). least_leaf m * x) (pow-suc (least_kids m) h) ∙ (sym (mul_assoc (least_leaf m) (least_kids m ^ h) (least_kids m)) ∙ mul_comm w (least_kids m)) in
      omega (arith, a, b, e, mul-le (least_kids m) w (suc (length t.rest)) w n (omega arith), suc-mul (length t.rest) w, length-append (entries_of K h t.first) (flat_map (λ x. entries_of K h x.1) t.rest))

  root_many : (h : ℕ) (t : Tree K (suc h)) → Filled (suc h) true t → 2 * (least_leaf m * least_kids m ^ h) ≤ length (entries_of K (suc h) t)
  root_many h t f =
      let w = least_leaf m * least_kids m ^ h in
      let a = below_many h t.first f.1 in
      let b = row_many w h t.rest (all_map (λ (x : K × Tree K h) (g : Filled h false x.1). below_many h x.1 g) t.rest f.2) in
      let n : 1 ≤ length t.rest = omega (arith, f.0, length-map {B = K × ℕ} t.rest (λ (x : K × Tree K h). (x.0, block_of K h x.1))) in
      omega (arith, a, b, mul-le 1 w (length t.rest) w n (omega arith), length-append (entries_of K h t.first) (flat_map (λ x. entries_of K h x.1) t.rest))

  tree_many : (h l : ℕ) (t : Tree K h) → l ≡ suc h → Filled h true t → 2 ≤ l → 2 * (least_leaf m * least_kids m ^ (l - 2)) ≤ length (entries_of K h t)
  tree_many zero l t e f n = absurd (omega arith)
  tree_many (suc h) l t e f n = let q : l - 2 ≡ h = omega arith in rw q (root_many h t f)

module _ {K : Type 0} {κ : Kind K} {n size : ℕ} {c : ℕ → List ℕ} (S : Sound κ n size c) where
  filled : Filled K S.head.order S.height true S.tree
  filled =
      each_map (Both Least Read) _ (λ is_leaf top b d p. subst (λ (z : ℕ). least S.head.order top is_leaf ≤ z) (sym (see_length κ (u8_at 1 (c b)) (drop 8 (c b)) d.entries p.1)) p.0) S.height true S.tree
      (each_both Least Read S.height true S.tree S.least_counts S.keys_read)
    where
      Least : Bool → Bool → ℕ → Node K → Type 0
      Least is_leaf top b d = least S.head.order top is_leaf ≤ u8_at 1 (c b)

      Read : Bool → Bool → ℕ → Node K → Type 0
      Read is_leaf top b d = see_entries κ (u8_at 1 (c b)) (drop 8 (c b)) ≡ Some d.entries

  pub many_keys : 2 ≤ S.head.levels → 2 * (least_leaf S.head.order * least_kids S.head.order ^ (S.head.levels - 2)) ≤ length (map_of S)
  many_keys l = tree_many K S.head.order S.height S.head.levels S.tree S.levels filled l
