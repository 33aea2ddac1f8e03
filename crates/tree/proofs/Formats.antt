-- A formatted store holds a sound file with no keys.
use Rattle.std.proofs.Common.{◌≡◌, ℕ, zero, suc, ◌+◌, ◌-◌, ◌*◌, ◌/◌, ◌%◌, ◌<◌, ◌≤◌, Bool, true, false, cond, eqb, ltb, leb, List, [], ◌∷◌, length, Ok, sym, refl, ap, ◌∙◌, subst, inl, inr, arith}
use Rattle.std.proofs.lemmas.Bool.{and_parts, cases_Bool, eqb-false, eqb-true, le-ltb, leb-true, lt-ltb, ltb-false, ltb-true, ne_eqb}
use Rattle.std.specs.List.{AllByRecursion}
use Rattle.keys.specs.Kind.{Kind}
use Rattle.keys.specs.Digits.{from_big}
use Rattle.tree.specs.declared.head.Head.{Head}
use Rattle.store.specs.Meaning.{Meaning}
use Rattle.tree.specs.declared.refusal.Refusal.TheVariants.{Unfit}
use Rattle.tree.specs.Calls.{format_after, format_plan, formatted, laid, next_free}
use Rattle.tree.specs.Entries.{rises, see_entries}
use Rattle.tree.specs.Fields.{u32_at, u8_at}
use Rattle.tree.specs.Heads.{has_letters, has_version, head_of, most_entries, order_fits, write_head}
use Rattle.tree.specs.Nodes.{free_tag, write_free, write_node}
use Rattle.tree.specs.Plans.{run, told}
use Rattle.tree.specs.Plans.Plan.{done, refuse}
use Rattle.tree.specs.SoundCalls.{Empty}
use Rattle.tree.specs.Sound.{Chain, Sound, map_of}
use Rattle.tree.specs.Trees.{Leaf, times}
use Rattle.tree.specs.Walks.{is_fit}

-- i blocks from b on
abbrev up : ℕ → ℕ → List ℕ
up b zero = []
up b (suc i) = b ∷ up (b + 1) i

up_length : (b i : ℕ) → length (up b i) ≡ i
up_length b zero = refl
up_length b (suc i) = ap suc (up_length (b + 1) i)

all_up : (P : ℕ → Type 0) (n : ℕ) → ((b : ℕ) → 2 ≤ b → b < n → P b) → (b i : ℕ) → 2 ≤ b → b + i ≤ n → AllByRecursion P (up b i)
all_up P n f b zero l r = tt
all_up P n f b (suc i) l r = (f b l (omega arith), all_up P n f (b + 1) i (omega arith) (omega arith))

times_before : (x b i : ℕ) → x < b → times x (up b i) ≡ 0
times_before x b zero l = refl
times_before x b (suc i) l = rw (ne_eqb x b (λ e. omega arith), times_before x (b + 1) i (omega arith))

times_inside : (x b i : ℕ) → b ≤ x → x < b + i → times x (up b i) ≡ 1
times_inside x b zero l r = absurd (omega arith)
times_inside x b (suc i) l r = go (eqb x b) refl (λ l. times_inside x (b + 1) i l (omega arith))
  where
    go : (p : Bool) → eqb x b ≡ p → (b + 1 ≤ x → times x (up (b + 1) i) ≡ 1) → cond (eqb x b) 1 0 + times x (up (b + 1) i) ≡ 1
    go true e t = let q = eqb-true x b e in rw (e, times_before x (b + 1) i (omega arith))
    go false e t = let q = eqb-false x b e in rw (e, t (omega arith))

times_past : (x b i : ℕ) → b + i ≤ x → times x (up b i) ≡ 0
times_past x b zero l = refl
times_past x b (suc i) l = rw (ne_eqb x b (λ e. omega arith), times_past x (b + 1) i (omega arith))

-- numbers come back out of the bytes
two_bytes : (x : ℕ) → x < 65536 → x / 256 % 256 * 256 + x % 256 ≡ x
two_bytes x l = omega arith

module _ {K : Type 0} (κ : Kind K) (n size m : ℕ) (two : 2 ≤ n) (few : n ≤ 1024) (wide : 64 ≤ size) (fits : order_fits κ size m ≡ true)
    (c : ℕ → List ℕ) (is : (b : ℕ) → b < n → c b ≡ formatted κ n size m b) where
  next_below : (b : ℕ) → next_free n b < n
  next_below b = go (ltb (b + 1) n) refl
    where
      go : (p : Bool) → ltb (b + 1) n ≡ p → cond (ltb (b + 1) n) (b + 1) 0 < n
      go true e = rw e (ltb-true (b + 1) n e)
      go false e = rw e (omega arith)

  head : Head
  head = record { order = m; levels = 1; root = 1; first_free = next_free n 1; free_count = n - 2; key_count = 0 }

  at_head : c 0 ≡ write_head κ size head
  unfolding head
  at_head = is 0 (omega arith)

  at_root : c 1 ≡ write_node κ size true (record { link = 0; entries = [] })
  at_root = is 1 (omega arith)

  at_free : (b : ℕ) → 2 ≤ b → b < n → c b ≡ write_free size (next_free n b)
  at_free b l r = is b r ∙ rw (ne_eqb b 0 (λ e. omega arith), ne_eqb b 1 (λ e. omega arith))

  free_link : (b : ℕ) → 2 ≤ b → b < n → u32_at 4 (c b) ≡ next_free n b
  free_link b l r = ap (u32_at 4) (at_free b l r) ∙ from_big 4 (next_free n b) (let x = next_below b in omega arith)

  head_back : head_of (write_head κ size head) ≡ head
  unfolding head
  head_back =
      let x = next_below 1 in
      let a : next_free n 1 / 256 % 256 * 256 + next_free n 1 % 256 ≡ next_free n 1 = two_bytes (next_free n 1) (omega arith) in
      let b : (n - 2) / 256 % 256 * 256 + (n - 2) % 256 ≡ n - 2 = two_bytes (n - 2) (omega arith) in
      λ i. record { order = m; levels = 1; root = 1; first_free = a i; free_count = b i; key_count = 0 }

  chain : (i b : ℕ) → 1 ≤ b → b + 1 + i ≡ n → Chain c (next_free n b) (up (b + 1) i)
  chain zero b l e = rw (le-ltb (b + 1) n (omega arith))
  chain (suc i) b l e =
      (rw (lt-ltb (b + 1) n (omega arith)), omega arith, subst (λ (x : ℕ). Chain c x (up (b + 1 + 1) i)) (sym (free_link (b + 1) (omega arith) (omega arith))) (chain i (b + 1) (omega arith) (omega arith)))

  once : (x : ℕ) → times x (1 ∷ up 2 (n - 2)) ≤ 1
  once x = go (eqb x 1) refl
    where
      most : times x (up 2 (n - 2)) ≤ 1
      most =
          elim (cases_Bool (ltb x 2)) [
            | inl e ↦ (let q = ltb-true x 2 e in omega (arith, times_before x 2 (n - 2) q))
            | inr e ↦ (let q = ltb-false x 2 e in elim (cases_Bool (ltb x n)) [ inl f ↦ (let r = ltb-true x n f in omega (arith, times_inside x 2 (n - 2) q (omega arith))) | inr f ↦ (let r = ltb-false x n f in omega (arith, times_past x 2 (n - 2) (omega arith))) ])
          ]

      go : (p : Bool) → eqb x 1 ≡ p → cond (eqb x 1) 1 0 + times x (up 2 (n - 2)) ≤ 1
      go true e = let q = eqb-true x 1 e in rw (e, times_before x 2 (n - 2) (omega arith)) (omega arith)
      go false e = rw e (omega (arith, most))

  covered : (x : ℕ) → 1 ≤ x → x < n → 1 ≤ times x (1 ∷ up 2 (n - 2))
  covered x l r = go (eqb x 1) refl
    where
      go : (p : Bool) → eqb x 1 ≡ p → 1 ≤ cond (eqb x 1) 1 0 + times x (up 2 (n - 2))
      go true e = rw e (omega arith)
      go false e = let q = eqb-false x 1 e in rw (e, times_inside x 2 (n - 2) (omega arith) (omega arith)) (omega arith)

  root_leaf : Leaf K
  root_leaf = record { block = 1; link = 0; entries = [] }

  pub formatted_sound : Sound κ n size c
  unfolding head root_leaf see_entries rises
  formatted_sound =
      let o = and_parts (leb 3 m) (leb m (most_entries size κ.width)) fits in
      let x = next_below 1 in
      record {
        two_blocks = two;
        wide_blocks = wide;
        head = head;
        head_shown = ap head_of at_head ∙ head_back;
        letters = ap has_letters at_head;
        version = ap has_version at_head;
        code = ap (u8_at 5) at_head;
        height = 0;
        levels = refl;
        tree = root_leaf;
        root = refl;
        links_shown = ap (u32_at 4) at_root;
        free = up 2 (n - 2);
        free_shown = chain (n - 2) 1 (omega arith) (omega arith);
        order_bounds = (leb-true 3 m o.0, leb-true m (most_entries size κ.width) o.1);
        levels_bounds = (omega arith, omega arith);
        root_bounds = (omega arith, omega arith);
        first_free_bound = x;
        node_tags = ap (u8_at 0) at_root;
        free_tags = all_up (λ (b : ℕ). u8_at 0 (c b) ≡ free_tag) n (λ b l r. ap (u8_at 0) (at_free b l r)) 2 (n - 2) (omega arith) (omega arith);
        most_counts = rw at_root (omega arith);
        least_counts = omega arith;
        free_counts = all_up (λ (b : ℕ). u8_at 1 (c b) ≡ 0) n (λ b l r. ap (u8_at 1) (at_free b l r)) 2 (n - 2) (omega arith) (omega arith);
        keys_read = rw at_root;
        keys_rise = refl;
        numbers_bounds = lt-ltb 0 n (omega arith);
        free_links = all_up (λ (b : ℕ). u32_at 4 (c b) < n) n (λ b l r. subst (λ (y : ℕ). y < n) (sym (free_link b l r)) (next_below b)) 2 (n - 2) (omega arith) (omega arith);
        parted = tt;
        once = once;
        linked = (refl, tt);
        free_count = up_length 2 (n - 2);
        covered = covered;
        key_count = refl;
      }

  pub formatted_empty : (s : Sound κ n size c) × (map_of s ≡ [])
  unfolding formatted_sound root_leaf
  formatted_empty = (formatted_sound, refl)

-- a format that was carried out
pub format_sound : {K : Type 0} (κ : Kind K) (m : Meaning) (order t i : ℕ) → m.count ≤ 1024 → told t (run m (format_plan κ m.count m.size order)) ≡ Ok (tt, i) → Empty κ (format_after κ m order)
unfolding run
format_sound {K} κ m order t i few e = by_fit (is_fit m.count m.size) refl e
  where
    written : Meaning
    written = laid m.count m (formatted κ m.count m.size order)

    by_order : is_fit m.count m.size ≡ true → (b : Bool) → order_fits κ m.size order ≡ b → told {A = Unit {0}} t (run m (cond b (done tt) (refuse tt Unfit))) ≡ Ok (tt, i) → Empty κ (cond b written m)
    by_order f true o e =
        let a = and_parts (leb 2 m.count) (leb 64 m.size) f in
        formatted_empty κ m.count m.size order (leb-true 2 m.count a.0) few (leb-true 64 m.size a.1) o written.contents (λ b l. rw (lt-ltb b m.count l))
    by_order f false o e = absurd (let z : ◌≡◌ {A = ℕ} 0 1 = cc in omega arith)

    by_fit : (b : Bool) → is_fit m.count m.size ≡ b → told {A = Unit {0}} t (run m (cond b (cond (order_fits κ m.size order) (done tt) (refuse tt Unfit)) (refuse tt Unfit))) ≡ Ok (tt, i)
        → Empty κ (cond b (cond (order_fits κ m.size order) written m) m)
    by_fit true f e = by_order f (order_fits κ m.size order) refl e
    by_fit false f e = absurd (let z : ◌≡◌ {A = ℕ} 0 1 = cc in omega arith)
