-- The leaf on the way to a key answers for the whole tree.
use Rattle.std.proofs.Common.{◌≡◌, ℕ, zero, suc, Bool, true, false, cond, not, ◌&&◌, List, [], ◌∷◌, ◌++◌, map, Some, None, Option, sym, refl, ap, ◌∙◌}
use Rattle.std.proofs.lemmas.List.{append-nil}
use Rattle.std.proofs.lemmas.Bool.{and_from, and_left, and_parts, and_right, not_from_true}
use Rattle.std.specs.List.{flat_map, AllByRecursion}
use Rattle.keys.specs.Kind.{Kind, Lawful}
use Rattle.tree.specs.Entries.{above, lookup, rises, same_key}
use Rattle.tree.specs.Trees.{AtLeast, Below, EachNode, Kids, Parted, Tree, Within, block_of, entries_of, kid_for}
use Rattle.tree.proofs.Order.{le_le, lt_le, lt_not}
use Rattle.tree.proofs.Shown.{all_both, all_map}
use Rattle.tree.proofs.Ways.{found_in}

module _ {X : Type 0} (P : X → Type 0) where
  all_append : (xs ys : List X) → AllByRecursion P xs → AllByRecursion P ys → AllByRecursion P (xs ++ ys)
  all_append [] ys a b = b
  all_append (x ∷ xs) ys a b = (a.0, all_append xs ys a.1 b)

  all_joined : {Y : Type 0} (f : Y → List X) (ys : List Y) → AllByRecursion (λ y. AllByRecursion P (f y)) ys → AllByRecursion P (flat_map f ys)
  all_joined f [] a = tt
  all_joined f (y ∷ ys) a = all_append (f y) (flat_map f ys) a.0 (all_joined f ys a.1)

module _ {K : Type 0} (κ : Kind K) where
  -- the bounds of a tree bound its entries
  entries_within : (lo hi : Option K) (h : ℕ) (t : Tree K h) → Within κ lo hi h t → AllByRecursion (λ (e : K × ℕ). AtLeast κ lo e.0 × Below κ e.0 hi) (entries_of K h t)
  entries_within lo hi zero t w = w
  entries_within lo hi (suc h) t w =
      all_append (λ (e : K × ℕ). AtLeast κ lo e.0 × Below κ e.0 hi) (entries_of K h t.first) (flat_map (λ x. entries_of K h x.1) t.rest) (entries_within lo hi h t.first w.1)
      (all_joined (λ (e : K × ℕ). AtLeast κ lo e.0 × Below κ e.0 hi) (λ (x : K × Tree K h). entries_of K h x.1) t.rest
      (all_map (λ (x : K × Tree K h) (a : Within κ lo hi h x.1). entries_within lo hi h x.1 a) t.rest w.2))

  -- separators that rise, from above a on
  abbrev Rising : {T : Type 0} → K → List (K × T) → Type 0
  Rising a [] = Unit {0}
  Rising a (x ∷ xs) = (κ.less a x.0 ≡ true) × Rising x.0 xs

  abbrev Rises : {T : Type 0} → List (K × T) → Type 0
  Rises [] = Unit {0}
  Rises (x ∷ xs) = Rising x.0 xs

  rising_by : {T : Type 0} (f : T → ℕ) (a : K) (xs : List (K × T)) → (above κ a (map (λ x. (x.0, f x.1)) xs) && rises κ (map (λ x. (x.0, f x.1)) xs)) ≡ true → Rising a xs
  unfolding rises
  rising_by f a [] h = tt
  rising_by f a (x ∷ xs) h = let p = and_parts (κ.less a x.0) (above κ x.0 (map (λ x. (x.0, f x.1)) xs) && rises κ (map (λ x. (x.0, f x.1)) xs)) h in (p.0, rising_by f x.0 xs p.1)

  rises_by : {T : Type 0} (f : T → ℕ) (xs : List (K × T)) → rises κ (map (λ x. (x.0, f x.1)) xs) ≡ true → Rises xs
  unfolding rises
  rises_by f [] h = tt
  rises_by f (x ∷ xs) h = rising_by f x.0 xs h

module _ {K : Type 0} (κ : Kind K) (L : Lawful κ) (k : K) where
  abbrev Other : K × ℕ → Type 0
  Other e = same_key κ k e.0 ≡ false

  other_above : (e : K × ℕ) → κ.less k e.0 ≡ true → Other e
  other_above e h = and_left (not (κ.less k e.0)) (not (κ.less e.0 k)) (not_from_true (κ.less k e.0) h)

  other_below : (e : K × ℕ) → κ.less e.0 k ≡ true → Other e
  other_below e h = and_right (not (κ.less k e.0)) (not (κ.less e.0 k)) (not_from_true (κ.less e.0 k) h)

  look_none : (ys : List (K × ℕ)) → AllByRecursion Other ys → lookup κ k ys ≡ None
  unfolding lookup
  look_none [] a = refl
  look_none (y ∷ ys) a = rw a.0 (look_none ys a.1)

  look_front : (xs ys : List (K × ℕ)) → AllByRecursion Other ys → lookup κ k (xs ++ ys) ≡ lookup κ k xs
  unfolding lookup
  look_front [] ys a = look_none ys a
  look_front (x ∷ xs) ys a = ap (cond (same_key κ k x.0) (Some x.1)) (look_front xs ys a)

  look_back : (xs ys : List (K × ℕ)) → AllByRecursion Other xs → lookup κ k (xs ++ ys) ≡ lookup κ k ys
  unfolding lookup
  look_back [] ys a = refl
  look_back (x ∷ xs) ys a = rw a.0 (look_back xs ys a.1)

  -- all entries from a separator on are at least it
  row_from : (h : ℕ) (a : K) (hi : Option K) (t : Tree K h) (xs : List (K × Tree K h)) → Kids κ (λ lo hi. Within κ lo hi h) (Some a) hi t xs → Rising κ a xs
      → AllByRecursion (λ (e : K × ℕ). κ.less e.0 a ≡ false) (entries_of K h t ++ flat_map (λ x. entries_of K h x.1) xs)
  row_from h a hi t [] ks r =
      all_append (λ (e : K × ℕ). κ.less e.0 a ≡ false) (entries_of K h t) []
      (all_map (λ (e : K × ℕ) (p : AtLeast κ (Some a) e.0 × Below κ e.0 hi). p.0) (entries_of K h t) (entries_within κ (Some a) hi h t ks)) tt
  row_from h a hi t (x ∷ xs) ks r =
      all_append (λ (e : K × ℕ). κ.less e.0 a ≡ false) (entries_of K h t) (flat_map (λ x. entries_of K h x.1) (x ∷ xs))
      (all_map (λ (e : K × ℕ) (p : AtLeast κ (Some a) e.0 × Below κ e.0 (Some x.0)). p.0) (entries_of K h t) (entries_within κ (Some a) (Some x.0) h t ks.0))
      (all_map (λ (e : K × ℕ) (p : κ.less e.0 x.0 ≡ false). le_le κ L a x.0 e.0 (lt_not κ L a x.0 r.0) p) (flat_map (λ x. entries_of K h x.1) (x ∷ xs)) (row_from h x.0 hi x.1 xs ks.1 r.1))

  -- the child for k answers for the row
  row_look : (h : ℕ) (lo hi : Option K) (t : Tree K h) (xs : List (K × Tree K h)) → Kids κ (λ lo hi. Within κ lo hi h) lo hi t xs → Rises κ xs
      → lookup κ k (entries_of K h t ++ flat_map (λ x. entries_of K h x.1) xs) ≡ lookup κ k (entries_of K h (kid_for κ k t xs))
  row_look h lo hi t [] ks o = rw append-nil
  row_look h lo hi t (x ∷ xs) ks o = go (κ.less k x.0) refl (row_look h (Some x.0) hi x.1 xs ks.1 (rest xs o))
    where
      rest : (ys : List (K × Tree K h)) → Rising κ x.0 ys → Rises κ ys
      rest [] r = tt
      rest (y ∷ ys) r = r.1

      go : (p : Bool) → κ.less k x.0 ≡ p → lookup κ k (flat_map (λ x. entries_of K h x.1) (x ∷ xs)) ≡ lookup κ k (entries_of K h (kid_for κ k x.1 xs))
          → lookup κ k (entries_of K h t ++ flat_map (λ x. entries_of K h x.1) (x ∷ xs)) ≡ lookup κ k (entries_of K h (kid_for κ k t (x ∷ xs)))
      go true e i =
          rw e
          (look_front (entries_of K h t) (flat_map (λ x. entries_of K h x.1) (x ∷ xs))
          (all_map (λ (a : K × ℕ) (p : κ.less a.0 x.0 ≡ false). other_above a (lt_le κ L k x.0 a.0 e p)) (flat_map (λ x. entries_of K h x.1) (x ∷ xs)) (row_from h x.0 hi x.1 xs ks.1 o)))
      go false e i =
          rw e
          (look_back (entries_of K h t) (flat_map (λ x. entries_of K h x.1) (x ∷ xs))
          (all_map (λ (a : K × ℕ) (p : AtLeast κ lo a.0 × Below κ a.0 (Some x.0)). other_below a (lt_le κ L a.0 x.0 k p.1 e)) (entries_of K h t) (entries_within κ lo (Some x.0) h t ks.0))
          ∙ i)

  -- what every child has, the child for k has
  pub kid_has : {T : Type 0} (P : T → Type 0) (t : T) (xs : List (K × T)) → P t → AllByRecursion (λ (x : K × T). P x.1) xs → P (kid_for κ k t xs)
  kid_has P t [] p a = p
  kid_has P t (x ∷ xs) p a = go (κ.less k x.0) refl (kid_has P x.1 xs a.0 a.1)
    where
      go : (b : Bool) → κ.less k x.0 ≡ b → P (kid_for κ k x.1 xs) → P (kid_for κ k t (x ∷ xs))
      go true e i = rw e p
      go false e i = rw e i

  pub found_right : (h : ℕ) (top : Bool) (t : Tree K h) → EachNode (λ is_leaf top b d. rises κ d.entries ≡ true) h top t → Parted κ h t
      → lookup κ k (found_in κ h k t).node.entries ≡ lookup κ k (entries_of K h t)
  found_right zero top t r p = refl
  found_right (suc h) top t r p =
      found_right h false (kid_for κ k t.first t.rest) (kid_has (EachNode (λ is_leaf top b d. rises κ d.entries ≡ true) h false) t.first t.rest r.1 r.2)
      (kid_has (Parted κ h) t.first t.rest p.1 p.2)
      ∙ sym (row_look h None None t.first t.rest p.0 (rises_by κ (block_of K h) t.rest r.0))

  -- entries up to a separator and entries from it on rise together
  rises_append : (z : K) (xs ys : List (K × ℕ)) → rises κ xs ≡ true → rises κ ys ≡ true → AllByRecursion (λ (e : K × ℕ). κ.less e.0 z ≡ true) xs → AllByRecursion (λ (e : K × ℕ). κ.less e.0 z ≡ false) ys
      → rises κ (xs ++ ys) ≡ true
  unfolding rises
  rises_append z [] ys r q a b = q
  rises_append z (x ∷ xs) ys r q a b =
      let p = and_parts (above κ x.0 xs) (rises κ xs) r in
      and_from (above κ x.0 (xs ++ ys)) (rises κ (xs ++ ys)) (front xs ys p.0 b) (rises_append z xs ys p.1 q a.1 b)
    where
      front : (us vs : List (K × ℕ)) → above κ x.0 us ≡ true → AllByRecursion (λ (e : K × ℕ). κ.less e.0 z ≡ false) vs → above κ x.0 (us ++ vs) ≡ true
      front [] [] u v = refl
      front [] (y ∷ vs) u v = lt_le κ L x.0 z y.0 a.0 v.0
      front (y ∷ us) vs u v = u

  row_rises : (h : ℕ) (lo hi : Option K) (t : Tree K h) (xs : List (K × Tree K h)) → Kids κ (λ lo hi. Within κ lo hi h) lo hi t xs → Rises κ xs
      → rises κ (entries_of K h t) ≡ true → AllByRecursion (λ (x : K × Tree K h). rises κ (entries_of K h x.1) ≡ true) xs → rises κ (entries_of K h t ++ flat_map (λ x. entries_of K h x.1) xs) ≡ true
  row_rises h lo hi t [] ks o r a = rw append-nil r
  row_rises h lo hi t (x ∷ xs) ks o r a =
      rises_append x.0 (entries_of K h t) (flat_map (λ x. entries_of K h x.1) (x ∷ xs)) r (row_rises h (Some x.0) hi x.1 xs ks.1 (rest xs o) a.0 a.1)
      (all_map (λ (e : K × ℕ) (p : AtLeast κ lo e.0 × Below κ e.0 (Some x.0)). p.1) (entries_of K h t) (entries_within κ lo (Some x.0) h t ks.0)) (row_from h x.0 hi x.1 xs ks.1 o)
    where
      rest : (ys : List (K × Tree K h)) → Rising κ x.0 ys → Rises κ ys
      rest [] r = tt
      rest (y ∷ ys) r = r.1

  -- the keys of a tree's leaves rise
  pub leaves_rise : (h : ℕ) (top : Bool) (t : Tree K h) → EachNode (λ is_leaf top b d. rises κ d.entries ≡ true) h top t → Parted κ h t → rises κ (entries_of K h t) ≡ true
  leaves_rise zero top t r p = r
  leaves_rise (suc h) top t r p =
      row_rises h None None t.first t.rest p.0 (rises_by κ (block_of K h) t.rest r.0) (leaves_rise h false t.first r.1 p.1)
      (all_map (λ (x : K × Tree K h) (a : EachNode (λ is_leaf top b d. rises κ d.entries ≡ true) h false x.1 × Parted κ h x.1). leaves_rise h false x.1 a.0 a.1) t.rest
      (all_both (λ (x : K × Tree K h). EachNode (λ is_leaf top b d. rises κ d.entries ≡ true) h false x.1) (λ (x : K × Tree K h). Parted κ h x.1) t.rest r.2 p.2))
