-- Gathering one entry more, cut from bytes that end with the last.
use Rattle.std.proofs.Common.{◌≡◌, ℕ, ◌+◌, ◌-◌, ◌*◌, ◌<◌, ◌≤◌, true, false, ltb, List, length, Some, sym, ap, ◌∙◌}
use Rattle.std.proofs.lemmas.Bool.{lt-ltb, le-ltb}
use Rattle.std.specs.declared.slice.ChunksExact.{ChunksExact}
use Rattle.page.proofs.Chunks.{Cut, left, many}
use Rattle.page.specs.Gathers.{gather_by, gather_on}
use Rattle.store.specs.Bytes.{overlaid}
use Rattle.tree.specs.Entries.{key_of}
use Rattle.keys.specs.Kind.{Kind}

module _ {K : Type 0} (κ : Kind K) (lo hi : K) where
  module _ (end : List ℕ) (s t : ChunksExact ℕ) (x : List ℕ) (c : Cut κ end s x t) (n : ℕ) (buf : List ℕ) where
    pub gather_next : gather_on κ lo hi (many κ s) (left end s) n buf
        ≡ gather_by κ lo hi (key_of κ x) n buf (ltb (length buf - n * (κ.width + 4)) (κ.width + 4))
        (gather_on κ lo hi (many κ t) (left end t) n buf)
        (gather_on κ lo hi (many κ t) (left end t) (n + 1) (overlaid buf (n * (κ.width + 4)) x))
    unfolding gather_on
    gather_next = rw (c.count, c.key, c.whole, c.past)

    -- an entry of the range that does not fit
    pub gather_full : (w : ℕ) (k : K) → w ≡ κ.width → Some k ≡ key_of κ x → false ≡ κ.less k lo → false ≡ κ.less hi k
        → length buf - n * (w + 4) < w + 4 → gather_on κ lo hi (many κ s) (left end s) n buf ≡ (n, Some true, buf)
    gather_full w k e r a b l =
        let m : length buf - n * (κ.width + 4) < κ.width + 4 = rw e at l in
        gather_next ∙ rw (sym r, sym a, sym b, lt-ltb (length buf - n * (κ.width + 4)) (κ.width + 4) m)

    -- an entry of the range that fits
    pub gather_one : (w : ℕ) (next : List ℕ) (k : K) → w ≡ κ.width → Some k ≡ key_of κ x → false ≡ κ.less k lo → false ≡ κ.less hi k
        → w + 4 ≤ length buf - n * (w + 4) → next ≡ overlaid buf (n * (w + 4)) x
        → gather_on κ lo hi (many κ s) (left end s) n buf ≡ gather_on κ lo hi (many κ t) (left end t) (n + 1) next
    gather_one w next k e r a b l o =
        let m : κ.width + 4 ≤ length buf - n * (κ.width + 4) = rw e at l in
        let p : next ≡ overlaid buf (n * (κ.width + 4)) x = rw e at o in
        gather_next ∙ rw (sym r, sym a, sym b, le-ltb (length buf - n * (κ.width + 4)) (κ.width + 4) m)
        (ap (λ (y : List ℕ). gather_on κ lo hi (many κ t) (left end t) (n + 1) y) (sym p))
