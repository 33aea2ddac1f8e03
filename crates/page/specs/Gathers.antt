-- The entries of a leaf from one key to another, copied behind each other into a buffer.
--
--   Walked                                what a walk gives: the entries in the buffer, how the range ends, the buffer
--   gather_on κ lo hi n bs taken buf      the walk over n entries of bs, entry by entry from the front,
--                                         where `taken` entries stand in buf already
--   scan_into κ lo hi d taken buf         the entries that a leaf d gives to what room is left in buf
--   Gathered κ lo hi d taken buf r buf'   the answer r and the buffer after are those of that scan
use Rattle.std.specs.Prelude.{◌≡◌, ℕ, zero, suc, ◌+◌, ◌-◌, ◌*◌, ◌/◌, Bool, true, false, cond, List, length, take, Some, None, Option, nat_lt}
use Rattle.keys.specs.Kind.{Kind}
use Rattle.store.specs.Bytes.{overlaid}
use Rattle.tree.specs.Entries.{key_of, past, write_entries}
use Rattle.tree.specs.Nodes.{Node}
use Rattle.tree.specs.Ranges.{Scan, scan}

abbrev pub Walked : Type 0
Walked = ℕ × Option Bool × List ℕ

module _ {K : Type 0} (κ : Kind K) (lo hi : K) where
  -- `full`: no room for one entry more
  abbrev pub gather_by : Option K → ℕ → List ℕ → Bool → Walked → Walked → Walked
  gather_by None t buf full passed copied = (t, None, buf)
  gather_by (Some k) t buf full passed copied = cond (κ.less k lo) passed (cond (κ.less hi k) (t, Some false, buf) (cond full (t, Some true, buf) copied))

  unfoldable pub gather_on : ℕ → List ℕ → ℕ → List ℕ → Walked
  gather_on zero bs t buf = (t, None, buf)
  gather_on (suc n) bs t buf =
      gather_by (key_of κ bs) t buf (nat_lt (length buf - t * (κ.width + 4)) (κ.width + 4))
      (gather_on n (past κ bs) t buf)
      (gather_on n (past κ bs) (t + 1) (overlaid buf (t * (κ.width + 4)) (take (κ.width + 4) bs)))

  abbrev pub scan_into : Node K → ℕ → List ℕ → Scan K
  scan_into d t buf = scan κ lo hi (length buf / (κ.width + 4) - t) d.entries

  pub record Gathered (d : Node K) (taken : ℕ) (buf : List ℕ) (r : ℕ × Option Bool) (buf' : List ℕ) : Type 0 where
    pub number : r.0 ≡ taken + length (scan_into d taken buf).taken
    pub end : r.1 ≡ (scan_into d taken buf).end
    pub filled : buf' ≡ overlaid buf (taken * (κ.width + 4)) (write_entries κ (scan_into d taken buf).taken)
