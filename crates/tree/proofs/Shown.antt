-- The rules in words amount to this: the head and the nodes are seen.
use Rattle.std.proofs.Common.{◌≡◌, ℕ, zero, suc, ◌≤◌, Bool, true, false, List, [], ◌∷◌, drop, Some, Ok, sym, subst, arith}
use Rattle.std.proofs.lemmas.Bool.{and_from, eq-eqb, le-leb, lt-ltb}
use Rattle.std.specs.List.{AllByRecursion}
use Rattle.keys.specs.Kind.{Kind}
use Rattle.tree.specs.declared.head.Head.{Head}
use Rattle.tree.specs.Entries.{rises, see_entries}
use Rattle.tree.specs.Fields.{u32_at, u8_at}
use Rattle.tree.specs.Heads.{head_of, most_entries, rule_1, see_head}
use Rattle.tree.specs.Nodes.{Node, least, numbers_fit, see_node, tag_of}
use Rattle.tree.specs.Nodes.Seen.{right}
use Rattle.tree.specs.Sound.{Sound}
use Rattle.tree.specs.Trees.{EachNode, Shows, Tree, node_of}

module _ {X : Type 0} {P Q : X → Type 0} where
  pub all_map : ((x : X) → P x → Q x) → (xs : List X) → AllByRecursion P xs → AllByRecursion Q xs
  all_map f [] a = tt
  all_map f (x ∷ xs) a = (f x a.0, all_map f xs a.1)

module _ {X : Type 0} (P Q : X → Type 0) where
  pub all_both : (xs : List X) → AllByRecursion P xs → AllByRecursion Q xs → AllByRecursion (λ x. P x × Q x) xs
  all_both [] a b = tt
  all_both (x ∷ xs) a b = ((a.0, b.0), all_both xs a.1 b.1)

abbrev pub Both : {K : Type 0} → (P Q : Bool → Bool → ℕ → Node K → Type 0) → Bool → Bool → ℕ → Node K → Type 0
Both P Q is_leaf top b d = P is_leaf top b d × Q is_leaf top b d

module _ {K : Type 0} (P Q : Bool → Bool → ℕ → Node K → Type 0) where
  pub each_map : ((is_leaf top : Bool) (b : ℕ) (d : Node K) → P is_leaf top b d → Q is_leaf top b d) → (h : ℕ) (top : Bool) (t : Tree K h) → EachNode P h top t → EachNode Q h top t
  each_map f zero top t p = f true top t.block (node_of K zero t) p
  each_map f (suc h) top t p = (
    f false top t.block (node_of K (suc h) t) p.0,
    each_map f h false t.first p.1,
    all_map (λ (x : K × Tree K h) (a : EachNode P h false x.1). each_map f h false x.1 a) t.rest p.2,
  )

  pub each_both : (h : ℕ) (top : Bool) (t : Tree K h) → EachNode P h top t → EachNode Q h top t → EachNode (Both P Q) h top t
  each_both zero top t p q = (p, q)
  each_both (suc h) top t p q = (
    (p.0, q.0),
    each_both h false t.first p.1 q.1,
    all_map (λ (x : K × Tree K h) (a : EachNode P h false x.1 × EachNode Q h false x.1). each_both h false x.1 a.0 a.1) t.rest (all_both (λ (x : K × Tree K h). EachNode P h false x.1) (λ (x : K × Tree K h). EachNode Q h false x.1) t.rest p.2 q.2),
  )

module _ {K : Type 0} (κ : Kind K) where
  -- a block that keeps rules 2 to 5 is seen
  node_seen : (n m : ℕ) (is_leaf : Bool) (low : ℕ) (bs : List ℕ) (d : Node K) → u32_at 4 bs ≡ d.link → u8_at 0 bs ≡ tag_of is_leaf → u8_at 1 bs ≤ m → low ≤ u8_at 1 bs
      → see_entries κ (u8_at 1 bs) (drop 8 bs) ≡ Some d.entries → rises κ d.entries ≡ true → numbers_fit κ n is_leaf d ≡ true → see_node κ n m is_leaf low bs ≡ right d
  unfolding see_node
  node_seen n m is_leaf low bs d link tag most least keys rise fit =
      rw (eq-eqb (u8_at 0 bs) (tag_of is_leaf) tag, le-leb low (u8_at 1 bs) least, le-leb (u8_at 1 bs) m most, keys, link, rise, fit)

module _ {K : Type 0} {κ : Kind K} {n size : ℕ} {c : ℕ → List ℕ} (S : Sound κ n size c) where
  pub sound_shows : Shows κ n S.head.order c S.height true S.tree
  sound_shows =
      each_map (Both Link Past_link) _
      (λ is_leaf top b d p. node_seen κ n S.head.order is_leaf (least S.head.order top is_leaf) (c b) d p.0 p.1.0 p.1.1.0 p.1.1.1.0 p.1.1.1.1.0 p.1.1.1.1.1.0 p.1.1.1.1.1.1)
      S.height true S.tree
      (and Link Past_link S.links_shown (and Tag Past_tag S.node_tags (and Most Past_most S.most_counts (and Least Past_least S.least_counts (and Read (Both Rise Fit) S.keys_read (and Rise Fit S.keys_rise S.numbers_bounds))))))
    where
      Link : Bool → Bool → ℕ → Node K → Type 0
      Link is_leaf top b d = u32_at 4 (c b) ≡ d.link

      Tag : Bool → Bool → ℕ → Node K → Type 0
      Tag is_leaf top b d = u8_at 0 (c b) ≡ tag_of is_leaf

      Most : Bool → Bool → ℕ → Node K → Type 0
      Most is_leaf top b d = u8_at 1 (c b) ≤ S.head.order

      Least : Bool → Bool → ℕ → Node K → Type 0
      Least is_leaf top b d = least S.head.order top is_leaf ≤ u8_at 1 (c b)

      Read : Bool → Bool → ℕ → Node K → Type 0
      Read is_leaf top b d = see_entries κ (u8_at 1 (c b)) (drop 8 (c b)) ≡ Some d.entries

      Rise : Bool → Bool → ℕ → Node K → Type 0
      Rise is_leaf top b d = rises κ d.entries ≡ true

      Fit : Bool → Bool → ℕ → Node K → Type 0
      Fit is_leaf top b d = numbers_fit κ n is_leaf d ≡ true

      Past_least : Bool → Bool → ℕ → Node K → Type 0
      Past_least = Both Read (Both Rise Fit)

      Past_most : Bool → Bool → ℕ → Node K → Type 0
      Past_most = Both Least Past_least

      Past_tag : Bool → Bool → ℕ → Node K → Type 0
      Past_tag = Both Most Past_most

      Past_link : Bool → Bool → ℕ → Node K → Type 0
      Past_link = Both Tag Past_tag

      and : (P Q : Bool → Bool → ℕ → Node K → Type 0) → EachNode P S.height true S.tree → EachNode Q S.height true S.tree → EachNode (Both P Q) S.height true S.tree
      and P Q p q = each_both P Q S.height true S.tree p q

  rule_1_holds : rule_1 κ n size S.head ≡ true
  rule_1_holds =
      and_from _ _ (and_from _ _ (le-leb 3 S.head.order S.order_bounds.0) (le-leb S.head.order (most_entries size κ.width) S.order_bounds.1))
      (and_from _ _ (and_from _ _ (le-leb 1 S.head.levels S.levels_bounds.0) (le-leb S.head.levels 10 S.levels_bounds.1))
      (and_from _ _ (and_from _ _ (lt-ltb 0 S.head.root (let r = S.root_bounds.0 in omega arith)) (lt-ltb S.head.root n S.root_bounds.1)) (lt-ltb S.head.first_free n S.first_free_bound)))

  pub head_seen : see_head κ n size (c 0) ≡ Ok S.head
  unfolding see_head
  head_seen =
      let q : rule_1 κ n size (head_of (c 0)) ≡ true = subst (λ (h : Head). rule_1 κ n size h ≡ true) (sym S.head_shown) rule_1_holds in
      rw (S.letters, S.version, eq-eqb (u8_at 5 (c 0)) κ.code S.code, q, S.head_shown)
