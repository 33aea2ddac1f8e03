-- Entries cut one after another from bytes that end with the last of them.
use Rattle.std.proofs.Common.{◌≡◌, ℕ, zero, suc, ◌+◌, ◌*◌, ◌/◌, ◌<◌, false, cond, List, ◌++◌, length, take, drop, Some, None, Bor, refl, ap, sym, ◌∙◌, suc-mul, arith, append_assoc, length-append, rules}
use Rattle.std.proofs.lemmas.List.{drop_at, take_at, places, same_lists}
use Rattle.std.proofs.lemmas.Nat.{div-mul-add}
use Rattle.std.specs.Slice.Iter.{chunks_exact_rest, chunks_exact_size, chunks_exact_steps}
use Rattle.std.specs.declared.slice.ChunksExact.{ChunksExact}
use Rattle.keys.specs.Bytes.{from_bytes}
use Rattle.keys.specs.Kind.{Kind}
use Rattle.page.proofs.Cuts.{part_kept}
use Rattle.page.specs.Rows.{kid_at, kid_by, kids_within, place_at, place_by, record_at, record_by}
use Rattle.tree.specs.Entries.{key_of, number_of, past}
use Rattle.tree.specs.Nodes.{is_block}

-- the bytes of the entries that are left, and those behind the last of all
abbrev pub left : List ℕ → ChunksExact ℕ → List ℕ
left end s = chunks_exact_rest s ++ end

times : (n p l : ℕ) → 0 < p → l ≡ n * p → l / p ≡ n
times n p l z e =
    let q : l ≡ n * p + 0 = omega arith in
    ap (λ (m : ℕ). m / p) q ∙ div-mul-add n p 0 z

one_less : (n p l m : ℕ) → 0 < p → l ≡ n * p → l ≡ p + m → (n ≡ suc (m / p)) × (m ≡ m / p * p)
one_less zero p l m z e f = absurd (omega arith)
one_less (suc n) p l m z e f =
    let k : m ≡ n * p = omega (arith, suc-mul n p) in
    let d : m / p ≡ n = times n p m z k in
    (ap suc (sym d), rw d k)

module _ {K : Type 0} (κ : Kind K) where
  -- how many entries are left
  abbrev pub many : ChunksExact ℕ → ℕ
  many s = length (chunks_exact_rest s) / (κ.width + 4)

  -- the bytes past the first n entries in bs
  abbrev pub behind : ℕ → List ℕ → List ℕ
  behind n bs = drop (n * (κ.width + 4)) bs

  -- whole entries are left
  pub record Ready (s : ChunksExact ℕ) : Type 0 where
    pub size : chunks_exact_size s ≡ κ.width + 4
    pub room : length (chunks_exact_rest s) ≡ many s * (κ.width + 4)

  -- none of the n entries in bs was cut yet
  pub record Uncut (n : ℕ) (bs : List ℕ) (s : ChunksExact ℕ) : Type 0 where
    pub count : many s ≡ n
    pub all : left (behind n bs) s ≡ bs
    pub ready : Ready s

  pub uncut : (n : ℕ) (bs : List ℕ) (s : ChunksExact ℕ) → chunks_exact_size s ≡ κ.width + 4 → length (chunks_exact_rest s) ≡ n * (κ.width + 4)
      → chunks_exact_rest s ≡ take (n * (κ.width + 4)) bs → Uncut n bs s
  uncut n bs s z l e =
      let c : many s ≡ n = times n (κ.width + 4) (length (chunks_exact_rest s)) (omega arith) l in
      record {
        count = c;
        all = rw e (same_lists _ _ (search (rules, places)) (λ k d h. grind (arith, places)));
        ready = record { size = z; room = rw c l };
      }

  -- the entry x was the first of those in s, and t are the others
  pub record Cut (end : List ℕ) (s : ChunksExact ℕ) (x : List ℕ) (t : ChunksExact ℕ) : Type 0 where
    pub count : many s ≡ suc (many t)
    pub wide : length x ≡ κ.width + 4
    pub whole : take (κ.width + 4) (left end s) ≡ x
    pub key : key_of κ (left end s) ≡ key_of κ x
    pub number : number_of κ (left end s) ≡ number_of κ x
    pub past : past κ (left end s) ≡ left end t
    pub ready : Ready t

  pub cut : (end : List ℕ) (s t : ChunksExact ℕ) (x : Bor (List ℕ)) → Ready s → chunks_exact_steps s (Some x) t → Cut end s x.now t
  cut end s t x r h =
      let w = κ.width in
      let a : chunks_exact_rest s ≡ x.now ++ chunks_exact_rest t = h.1.0 in
      let e : left end s ≡ x.now ++ left end t = ap (λ xs. xs ++ end) a ∙ append_assoc x.now (chunks_exact_rest t) end in
      let l : length x.now ≡ w + 4 = h.1.1 ∙ r.size in
      let m : length (chunks_exact_rest s) ≡ (w + 4) + length (chunks_exact_rest t) = ap length a ∙ (length-append x.now (chunks_exact_rest t) ∙ ap (λ (k : ℕ). k + length (chunks_exact_rest t)) l) in
      let o = one_less (many s) (w + 4) (length (chunks_exact_rest s)) (length (chunks_exact_rest t)) (omega arith) r.room m in
      let front : take w (x.now ++ left end t) ≡ take w x.now = part_kept 0 w x.now (left end t) (omega arith) in
      record {
        count = o.0;
        wide = l;
        whole = rw e (take_at x.now (left end t) (w + 4) l);
        key = rw e (ap κ.read front);
        number = rw e (ap from_bytes (part_kept w 4 x.now (left end t) (omega arith)));
        past = rw e (drop_at x.now (left end t) (w + 4) l);
        ready = record { size = h.0 ∙ r.size; room = o.1 };
      }

  pub cut_none : (s t : ChunksExact ℕ) → Ready s → chunks_exact_steps s None t → many s ≡ 0
  cut_none s t r h = go (many s) r.room
    where
      go : (n : ℕ) → length (chunks_exact_rest s) ≡ n * (κ.width + 4) → n ≡ 0
      go zero e = refl
      go (suc n) e =
          absurd
          (let short = h.1.0 in
          let z = r.size in
          omega (arith, suc-mul n (κ.width + 4)))

  module _ (end : List ℕ) (s t : ChunksExact ℕ) (x : List ℕ) (c : Cut end s x t) where
    pub kids_next : (n : ℕ) → kids_within κ n (many s) (left end s) ≡ cond (is_block n (number_of κ x)) (kids_within κ n (many t) (left end t)) false
    unfolding kids_within
    kids_next n = rw (c.count, c.number, c.past)

    pub kid_next : (k : K) (b : ℕ) → kid_at κ k b (many s) (left end s) ≡ kid_by κ k b (key_of κ x) (kid_at κ k (number_of κ x) (many t) (left end t))
    unfolding kid_at
    kid_next k b = rw (c.count, c.key, c.number, c.past)

    pub place_next : (k : K) (a : ℕ) → place_at κ k a (many s) (left end s) ≡ place_by κ k a (key_of κ x) (place_at κ k (a + 1) (many t) (left end t))
    unfolding place_at
    place_next k a = rw (c.count, c.key, c.past)

    pub record_next : (k : K) → record_at κ k (many s) (left end s) ≡ record_by κ k (number_of κ x) (key_of κ x) (record_at κ k (many t) (left end t))
    unfolding record_at
    record_next k = rw (c.count, c.key, c.number, c.past)
