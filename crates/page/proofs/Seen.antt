-- What a node's entries say is what a walk over its bytes says.
use Rattle.std.proofs.Common.{◌≡◌, ℕ, zero, suc, ◌+◌, ◌*◌, ◌≤◌, Bool, true, false, cond, not, ◌&&◌, eqb, leb, List, [], ◌∷◌, get_or, drop, Some, None, Option, sym, refl, ap, ◌∙◌, arith}
use Rattle.std.proofs.lemmas.Bool.{leb-true, and_parts}
use Rattle.std.proofs.lemmas.Nat.{mul-le}
use Rattle.keys.specs.Kind.{Kind, Lawful}
use Rattle.keys.specs.Rows.{keys_of, rise, rise_above, rows_rise}
use Rattle.page.specs.Rows.{flaw_of, kid_at, kid_by, kids_within, links_fit, record_at, record_by}
use Rattle.tree.specs.declared.rule.Rule.{Rule}
use Rattle.tree.specs.declared.rule.Rule.TheVariants.{Tag, Count, Keys, Links}
use Rattle.tree.specs.Entries.{above, join_entry, key_of, lookup, number_of, part, part_at, past, rises, see_entries}
use Rattle.tree.specs.Fields.{u32_at}
use Rattle.tree.specs.Nodes.{Node, Seen, check, is_block, kids_fit, node_with, numbers_fit, or_wrong, see_node, tag_of}
use Rattle.tree.specs.Nodes.Seen.{wrong, right}
use Rattle.tree.specs.Walks.{last_kid}

-- four tests in their order
abbrev pub verdict : Bool → Bool → Bool → Bool → Option Rule
verdict a b c d = cond a (cond b (cond c (cond d None (Some Links)) (Some Keys)) (Some Count)) (Some Tag)

-- a count that is let through has room for its entries
pub count_fits : (low n m e l : ℕ) → true ≡ leb low n && leb n m → 8 + m * e ≤ l → 8 + n * e ≤ l
count_fits low n m e l h k =
    let i : n ≤ m = leb-true n m (and_parts (leb low n) (leb n m) (sym h)).1 in
    omega (arith, mul-le n e m e i (omega arith))

module _ {K : Type 0} (κ : Kind K) where
  abbrev clears : Option K → K → Bool
  clears None k = true
  clears (Some l) k = κ.less l k

  -- entries that rise from above low
  abbrev rises_from : Option K → List (K × ℕ) → Bool
  rises_from low [] = true
  rises_from low (e ∷ es) = cond (clears low e.0) (rises_from (Some e.0) es) false

  abbrev some_rise : Option K → Option (List (K × ℕ)) → Bool
  some_rise low None = false
  some_rise low (Some es) = rises_from low es

  and_false : (b : Bool) → b && false ≡ false
  and_false true = refl
  and_false false = refl

  and_cond : (b x : Bool) → cond b x false ≡ b && x
  and_cond true x = refl
  and_cond false x = refl

  -- keys that rise from above l are those of entries that do
  rise_above_entries : (l : K) (n : ℕ) (bs : List ℕ) → rise_above κ l (keys_of κ (κ.width + 4) n bs) ≡ some_rise (Some l) (see_entries κ n bs)
  unfolding rise_above keys_of see_entries
  rise_above_entries l zero bs = refl
  rise_above_entries l (suc n) bs = go (key_of κ bs) (see_entries κ n (past κ bs)) (λ k. rise_above_entries k n (past κ bs))
    where
      go : (o : Option K) (r : Option (List (K × ℕ))) → ((k : K) → rise_above κ k (keys_of κ (κ.width + 4) n (past κ bs)) ≡ some_rise (Some k) r)
          → rise_above κ l (o ∷ keys_of κ (κ.width + 4) n (past κ bs)) ≡ some_rise (Some l) (join_entry o (number_of κ bs) r)
      go None r h = refl
      go (Some k) None h = ap (λ (x : Bool). κ.less l k && x) (h k) ∙ and_false (κ.less l k)
      go (Some k) (Some es) h = ap (λ (x : Bool). κ.less l k && x) (h k) ∙ sym (and_cond (κ.less l k) (rises_from (Some k) es))

  rise_entries : (n : ℕ) (bs : List ℕ) → rows_rise κ (κ.width + 4) n bs ≡ some_rise None (see_entries κ n bs)
  unfolding rise keys_of see_entries
  rise_entries zero bs = refl
  rise_entries (suc n) bs = go (key_of κ bs) (see_entries κ n (past κ bs)) (λ k. rise_above_entries k n (past κ bs))
    where
      go : (o : Option K) (r : Option (List (K × ℕ))) → ((k : K) → rise_above κ k (keys_of κ (κ.width + 4) n (past κ bs)) ≡ some_rise (Some k) r)
          → rise κ (o ∷ keys_of κ (κ.width + 4) n (past κ bs)) ≡ some_rise None (join_entry o (number_of κ bs) r)
      go None r h = refl
      go (Some k) None h = h k
      go (Some k) (Some es) h = h k

  rises_more : (k : K) (es : List (K × ℕ)) → above κ k es && rises κ es ≡ rises_from (Some k) es
  unfolding rises
  rises_more k [] = refl
  rises_more k (e ∷ es) = go (κ.less k e.0) (rises_more e.0 es)
    where
      go : (b : Bool) → above κ e.0 es && rises κ es ≡ rises_from (Some e.0) es → b && (above κ e.0 es && rises κ es) ≡ cond b (rises_from (Some e.0) es) false
      go true h = h
      go false h = refl

  pub rises_is : (es : List (K × ℕ)) → rises κ es ≡ rises_from None es
  unfolding rises
  rises_is [] = refl
  rises_is (e ∷ es) = rises_more e.0 es

  some_kids : ℕ → Option (List (K × ℕ)) → Bool → Type 0
  some_kids n None b = Unit {0}
  some_kids n (Some es) b = b ≡ kids_fit κ n es

  kids_entries : (count n : ℕ) (bs : List ℕ) → some_kids count (see_entries κ n bs) (kids_within κ count n bs)
  unfolding kids_within see_entries some_kids kids_fit
  kids_entries count zero bs = refl
  kids_entries count (suc n) bs = go (key_of κ bs) (see_entries κ n (past κ bs)) (number_of κ bs) (kids_within κ count n (past κ bs)) (kids_entries count n (past κ bs))
    where
      go : (o : Option K) (r : Option (List (K × ℕ))) (v : ℕ) (w : Bool) → some_kids count r w → some_kids count (join_entry o v r) (cond (is_block count v) w false)
      go None r v w h = tt
      go (Some k) None v w h = tt
      go (Some k) (Some es) v w h = ap (λ (x : Bool). cond (is_block count v) x false) h ∙ and_cond (is_block count v) (kids_fit κ count es)

  flaw_check : {A : Type 0} (r : Rule) (t : Bool) (s : Seen A) → flaw_of (check r t s) ≡ cond t (flaw_of s) (Some r)
  flaw_check r true s = refl
  flaw_check r false s = refl

  numbers : (n c : ℕ) (leaf : Bool) (bs : List ℕ) (es : List (K × ℕ)) → c ≡ get_or bs 1 0 → kids_within κ n c (drop 8 bs) ≡ kids_fit κ n es → numbers_fit κ n leaf (node_with κ bs es) ≡ links_fit κ n leaf bs
  numbers n c true bs es e h = refl
  numbers n c false bs es e h = ap (λ (x : Bool). is_block n (u32_at 4 bs) && x) (sym (rw e at h))

  rest_is : (n : ℕ) (leaf : Bool) (bs : List ℕ) (o : Option (List (K × ℕ))) → some_kids n o (kids_within κ n (get_or bs 1 0) (drop 8 bs))
      → flaw_of (or_wrong Keys (λ es. check Keys (rises κ es) (check Links (numbers_fit κ n leaf (node_with κ bs es)) (right (node_with κ bs es)))) o) ≡ cond (some_rise None o) (cond (links_fit κ n leaf bs) None (Some Links)) (Some Keys)
  unfolding some_kids
  rest_is n leaf bs None h = refl
  rest_is n leaf bs (Some es) h =
      flaw_check Keys (rises κ es) _ ∙ rw (rises_is es)
      (ap (λ (x : Option Rule). cond (rises_from None es) x (Some Keys))
      (flaw_check Links (numbers_fit κ n leaf (node_with κ bs es)) (right (node_with κ bs es)) ∙ ap (λ (b : Bool). cond b None (Some Links)) (numbers n (get_or bs 1 0) leaf bs es refl h)))

  pub flaw_is : (n m : ℕ) (leaf : Bool) (low : ℕ) (bs : List ℕ) → flaw_of (see_node κ n m leaf low bs)
      ≡ verdict (eqb (get_or bs 0 0) (tag_of leaf)) (leb low (get_or bs 1 0) && leb (get_or bs 1 0) m) (rows_rise κ (κ.width + 4) (get_or bs 1 0) (drop 8 bs)) (links_fit κ n leaf bs)
  unfolding see_node
  flaw_is n m leaf low bs =
      flaw_check Tag (eqb (get_or bs 0 0) (tag_of leaf)) _ ∙ ap (λ (x : Option Rule). cond (eqb (get_or bs 0 0) (tag_of leaf)) x (Some Tag))
      (flaw_check Count (leb low (get_or bs 1 0) && leb (get_or bs 1 0) m) _ ∙ ap (λ (x : Option Rule). cond (leb low (get_or bs 1 0) && leb (get_or bs 1 0) m) x (Some Count))
      (rw (rise_entries (get_or bs 1 0) (drop 8 bs)) (rest_is n leaf bs (see_entries κ (get_or bs 1 0) (drop 8 bs)) (kids_entries n (get_or bs 1 0) (drop 8 bs)))))

  check_right : {A : Type 0} (r : Rule) (t : Bool) (s : Seen A) (d : A) → check r t s ≡ right d → (t ≡ true) × (s ≡ right d)
  check_right r true s d h = (refl, h)
  check_right r false s d h = absurd (let z : ◌≡◌ {A = ℕ} 0 1 = cc in omega arith)

  or_right : {A B : Type 0} (r : Rule) (f : A → Seen B) (o : Option A) (d : B) → or_wrong r f o ≡ right d → (a : A) × (o ≡ Some a) × (f a ≡ right d)
  or_right r f None d h = absurd (let z : ◌≡◌ {A = ℕ} 0 1 = cc in omega arith)
  or_right r f (Some a) d h = (a, refl, h)

  pub record Right (n m : ℕ) (leaf : Bool) (low : ℕ) (bs : List ℕ) (d : Node K) : Type 0 where
    pub count : true ≡ leb low (get_or bs 1 0) && leb (get_or bs 1 0) m
    pub entries : see_entries κ (get_or bs 1 0) (drop 8 bs) ≡ Some d.entries
    pub link : d.link ≡ u32_at 4 bs
    pub rising : rises κ d.entries ≡ true

  pub seen_right : (n m : ℕ) (leaf : Bool) (low : ℕ) (bs : List ℕ) (d : Node K) → see_node κ n m leaf low bs ≡ right d → Right n m leaf low bs d
  unfolding see_node
  seen_right n m leaf low bs d h =
      let a = check_right Tag _ _ d h in
      let b = check_right Count _ _ d a.1 in
      let o = or_right Keys _ (see_entries κ (get_or bs 1 0) (drop 8 bs)) d b.1 in
      let e = check_right Keys (rises κ o.0) _ d o.2 in
      let f = check_right Links _ _ d e.1 in
      let same : o.0 ≡ d.entries = seen_same f.1 in
      record { count = sym b.0; entries = o.1 ∙ ap {B = Option (List (K × ℕ))} Some same; link = seen_link f.1; rising = ap (λ (x : List (K × ℕ)). rises κ x) (sym same) ∙ e.0 }
    where
      unright : Node K → Seen (Node K) → Node K
      unright x (wrong r) = x
      unright x (right y) = y

      seen_same : {es : List (K × ℕ)} → ◌≡◌ {A = Seen (Node K)} (right (node_with κ bs es)) (right d) → es ≡ d.entries
      seen_same {es} p = ap (λ (s : Seen (Node K)). (unright d s).entries) p

      seen_link : {es : List (K × ℕ)} → ◌≡◌ {A = Seen (Node K)} (right (node_with κ bs es)) (right d) → d.link ≡ u32_at 4 bs
      seen_link {es} p = sym (ap (λ (s : Seen (Node K)). (unright d s).link) p)

  -- the child that a walk over bytes finds
  kid_entries : (k : K) (b n : ℕ) (bs : List ℕ) (es : List (K × ℕ)) → see_entries κ n bs ≡ Some es → kid_at κ k b n bs ≡ last_kid b (part κ k es).low
  unfolding see_entries kid_at part
  kid_entries k b zero bs es h = let e : es ≡ [] = some_same h in rw e
    where
      some_same : Some [] ≡ Some es → es ≡ []
      some_same p = cc
  kid_entries k b (suc n) bs es h = go (key_of κ bs) (see_entries κ n (past κ bs)) refl h (λ fs e. kid_entries k (number_of κ bs) n (past κ bs) fs e)
    where
      by : (t : Bool) (x v : ℕ) (e : K × ℕ) (fs : List (K × ℕ)) → e.1 ≡ v → x ≡ last_kid v (part κ k fs).low → cond t b x ≡ last_kid b (part_at t e fs (part κ k fs)).low
      by true x v e fs q h = refl
      by false x v e fs q h = h ∙ ap (λ (y : ℕ). last_kid y (part κ k fs).low) (sym q)

      go : (o : Option K) (r : Option (List (K × ℕ))) → see_entries κ n (past κ bs) ≡ r → join_entry o (number_of κ bs) r ≡ Some es
          → ((fs : List (K × ℕ)) → see_entries κ n (past κ bs) ≡ Some fs → kid_at κ k (number_of κ bs) n (past κ bs) ≡ last_kid (number_of κ bs) (part κ k fs).low)
          → kid_by κ k b o (kid_at κ k (number_of κ bs) n (past κ bs)) ≡ last_kid b (part κ k es).low
      go None r e p i = absurd (let z : ◌≡◌ {A = ℕ} 0 1 = cc in omega arith)
      go (Some j) None e p i = absurd (let z : ◌≡◌ {A = ℕ} 0 1 = cc in omega arith)
      go (Some j) (Some fs) e p i =
          let q : es ≡ (j, number_of κ bs) ∷ fs = cc in
          rw q (by (κ.less k j) (kid_at κ k (number_of κ bs) n (past κ bs)) (number_of κ bs) (j, number_of κ bs) fs refl (i fs e))

  module _ (L : Lawful κ) where
    -- a key below all of the entries is not among them
    none_below : (k j : K) (es : List (K × ℕ)) → κ.less k j ≡ true → rises_from (Some j) es ≡ true → lookup κ k es ≡ None
    unfolding lookup
    none_below k j [] h r = refl
    none_below k j (e ∷ es) h r =
        let p = cond_true (κ.less j e.0) (rises_from (Some e.0) es) r in
        let t = L.transitive k j e.0 h p.0 in
        rw t (none_below k e.0 es t p.1)
      where
        cond_true : (a b : Bool) → cond a b false ≡ true → (a ≡ true) × (b ≡ true)
        cond_true true b h = (refl, h)
        cond_true false b h = absurd (grind arith)

    record_entries : (k : K) (low : Option K) (n : ℕ) (bs : List ℕ) (es : List (K × ℕ)) → see_entries κ n bs ≡ Some es → rises_from low es ≡ true → record_at κ k n bs ≡ lookup κ k es
    unfolding see_entries record_at lookup
    record_entries k low zero bs es h r = let e : es ≡ [] = some_same h in rw e
      where
        some_same : Some [] ≡ Some es → es ≡ []
        some_same p = cc
    record_entries k low (suc n) bs es h r = go (key_of κ bs) (see_entries κ n (past κ bs)) refl h (λ j fs e. record_entries k (Some j) n (past κ bs) fs e)
      where
        cond_true : (a b : Bool) → cond a b false ≡ true → b ≡ true
        cond_true true b h = h
        cond_true false b h = absurd (grind arith)

        by : (a b : Bool) (x : Option ℕ) (v : ℕ) (y : Option ℕ) → (a ≡ true → y ≡ None) → x ≡ y → cond b x (cond a None (Some v)) ≡ cond (not a && not b) (Some v) y
        by true true x v y f e = e
        by true false x v y f e = sym (f refl)
        by false true x v y f e = e
        by false false x v y f e = refl

        go : (o : Option K) (q : Option (List (K × ℕ))) → see_entries κ n (past κ bs) ≡ q → join_entry o (number_of κ bs) q ≡ Some es
            → ((j : K) (fs : List (K × ℕ)) → see_entries κ n (past κ bs) ≡ Some fs → rises_from (Some j) fs ≡ true → record_at κ k n (past κ bs) ≡ lookup κ k fs)
            → record_by κ k (number_of κ bs) o (record_at κ k n (past κ bs)) ≡ lookup κ k es
        go None q e p i = absurd (let z : ◌≡◌ {A = ℕ} 0 1 = cc in omega arith)
        go (Some j) None e p i = absurd (let z : ◌≡◌ {A = ℕ} 0 1 = cc in omega arith)
        go (Some j) (Some fs) e p i =
            let q : es ≡ (j, number_of κ bs) ∷ fs = cc in
            let s : rises_from (Some j) fs ≡ true = cond_true (clears low j) (rises_from (Some j) fs) (rw q at r) in
            rw q (by (κ.less k j) (κ.less j k) (record_at κ k n (past κ bs)) (number_of κ bs) (lookup κ k fs) (λ t. none_below k j fs t s) (i j fs e s))

    pub record_is : (k : K) (n m : ℕ) (leaf : Bool) (low : ℕ) (bs : List ℕ) (d : Node K) → see_node κ n m leaf low bs ≡ right d → record_at κ k (get_or bs 1 0) (drop 8 bs) ≡ lookup κ k d.entries
    record_is k n m leaf low bs d h = let s = seen_right n m leaf low bs d h in record_entries k None (get_or bs 1 0) (drop 8 bs) d.entries s.entries (sym (rises_is d.entries) ∙ s.rising)

  pub kid_is : (k : K) (n m : ℕ) (leaf : Bool) (low : ℕ) (bs : List ℕ) (d : Node K) → see_node κ n m leaf low bs ≡ right d → kid_at κ k (u32_at 4 bs) (get_or bs 1 0) (drop 8 bs) ≡ last_kid d.link (part κ k d.entries).low
  kid_is k n m leaf low bs d h =
      let s = seen_right n m leaf low bs d h in
      kid_entries k (u32_at 4 bs) (get_or bs 1 0) (drop 8 bs) d.entries s.entries ∙ ap (λ (x : ℕ). last_kid x (part κ k d.entries).low) (sym s.link)
