-- Entries cut from bytes one after another, as an iterator cuts them.
use Rattle.std.proofs.Common.{◌≡◌, ℕ, zero, suc, ◌+◌, ◌*◌, ◌≤◌, true, false, cond, List, ◌++◌, length, take, drop, Some, None, Bor, refl, ap, ◌∙◌, suc-mul, arith, length-append, rules}
use Rattle.std.proofs.lemmas.List.{drop_at, take_at, places, same_lists}
use Rattle.std.specs.Iterator.Adapters.{take_count, take_source, take_steps}
use Rattle.std.specs.Slice.Iter.{chunks_exact_rest, chunks_exact_size, chunks_exact_steps}
use Rattle.std.specs.declared.iter.Take.{Take}
use Rattle.std.specs.declared.slice.ChunksExact.{ChunksExact}
use Rattle.keys.specs.Bytes.{from_bytes}
use Rattle.keys.specs.Kind.{Kind}
use Rattle.page.specs.Rows.{kid_at, kid_by, kids_within, place_at, place_by, record_at, record_by}
use Rattle.tree.specs.Entries.{key_of, number_of, past}
use Rattle.tree.specs.Nodes.{is_block}

-- the bytes of the entries that are left
abbrev pub left : Take (ChunksExact ℕ) → List ℕ
left s = chunks_exact_rest (take_source s)

pub part_kept : (a b : ℕ) (xs ys : List ℕ) → a + b ≤ length xs → take b (drop a (xs ++ ys)) ≡ take b (drop a xs)
part_kept a b xs ys h = same_lists _ _ (search (rules, places)) (λ k d l. grind (arith, places))

module _ {K : Type 0} (κ : Kind K) where
  -- whole entries are left, as many as are still counted
  pub record Ready (s : Take (ChunksExact ℕ)) : Type 0 where
    pub size : chunks_exact_size (take_source s) ≡ κ.width + 4
    pub room : take_count s * (κ.width + 4) ≤ length (left s)

  -- the entry x was the first of those in s, and t are the others
  pub record Cut (s : Take (ChunksExact ℕ)) (x : List ℕ) (t : Take (ChunksExact ℕ)) : Type 0 where
    pub count : take_count s ≡ suc (take_count t)
    pub wide : length x ≡ κ.width + 4
    pub whole : take (κ.width + 4) (left s) ≡ x
    pub key : key_of κ (left s) ≡ key_of κ x
    pub number : number_of κ (left s) ≡ number_of κ x
    pub past : past κ (left s) ≡ left t
    pub ready : Ready t

  pub cut : (s t : Take (ChunksExact ℕ)) (x : Bor (List ℕ)) → Ready s → take_steps chunks_exact_steps s (Some x) t → Cut s x.now t
  cut s t x r h =
      let w = κ.width in
      let e : left s ≡ x.now ++ left t = h.0.1.0 in
      let l : length x.now ≡ w + 4 = h.0.1.1 ∙ r.size in
      let c : take_count s ≡ suc (take_count t) = omega arith in
      let o : suc (take_count t) * (w + 4) ≤ length (x.now ++ left t) = rw (c, e) at r.room in
      let front : take w (x.now ++ left t) ≡ take w x.now = part_kept 0 w x.now (left t) (omega arith) in
      record {
        count = c;
        wide = l;
        whole = rw e (take_at x.now (left t) (w + 4) l);
        key = rw e (ap κ.read front);
        number = rw e (ap from_bytes (part_kept w 4 x.now (left t) (omega arith)));
        past = rw e (drop_at x.now (left t) (w + 4) l);
        ready = record { size = h.0.0 ∙ r.size; room = omega (arith, suc-mul (take_count t) (w + 4), length-append x.now (left t)) };
      }

  pub cut_none : (s t : Take (ChunksExact ℕ)) → Ready s → take_steps chunks_exact_steps s None t → take_count s ≡ 0
  cut_none s t r h = go (take_count s) refl
    where
      go : (n : ℕ) → take_count s ≡ n → n ≡ 0
      go zero e = refl
      go (suc n) e =
          absurd
          (let short = (h (omega arith)).1.0 in
          let o : suc n * (κ.width + 4) ≤ length (left s) = rw e at r.room in
          let z = r.size in
          omega (arith, suc-mul n (κ.width + 4)))

  module _ (s t : Take (ChunksExact ℕ)) (x : List ℕ) (c : Cut s x t) where
    pub kids_next : (n : ℕ) → kids_within κ n (take_count s) (left s) ≡ cond (is_block n (number_of κ x)) (kids_within κ n (take_count t) (left t)) false
    unfolding kids_within
    kids_next n = rw (c.count, c.number, c.past)

    pub kid_next : (k : K) (b : ℕ) → kid_at κ k b (take_count s) (left s) ≡ kid_by κ k b (key_of κ x) (kid_at κ k (number_of κ x) (take_count t) (left t))
    unfolding kid_at
    kid_next k b = rw (c.count, c.key, c.number, c.past)

    pub place_next : (k : K) (a : ℕ) → place_at κ k a (take_count s) (left s) ≡ place_by κ k a (key_of κ x) (place_at κ k (a + 1) (take_count t) (left t))
    unfolding place_at
    place_next k a = rw (c.count, c.key, c.past)

    pub record_next : (k : K) → record_at κ k (take_count s) (left s) ≡ record_by κ k (number_of κ x) (key_of κ x) (record_at κ k (take_count t) (left t))
    unfolding record_at
    record_next k = rw (c.count, c.key, c.number, c.past)

  module _ (n : ℕ) (bs : List ℕ) (none : n ≡ 0) where
    pub kids_end : (m : ℕ) → kids_within κ m n bs ≡ true
    unfolding kids_within
    kids_end m = rw none

    pub kid_end : (k : K) (b : ℕ) → kid_at κ k b n bs ≡ b
    unfolding kid_at
    kid_end k b = rw none

    pub place_end : (k : K) (a : ℕ) → place_at κ k a n bs ≡ a
    unfolding place_at
    place_end k a = rw none

    pub record_end : (k : K) → record_at κ k n bs ≡ None
    unfolding record_at
    record_end k = rw none
