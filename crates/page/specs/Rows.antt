-- What the code finds in a node's bytes, entry by entry from the front.
--
--   kids_within κ count n bs      whether the numbers of n entries are blocks of `count` past the head
--   kid_at κ k b n bs             the child for k among n entries, where b is the child before them
--   place_at κ k a n bs           how many of n entries are up to k, a more
--   record_at κ k n bs            the record of k among n entries
--   links_fit κ count is_leaf bs  whether a node's link and children keep rule 5
--   flaw_of s                     the rule that a block breaks
use Rattle.std.specs.Prelude.{ℕ, zero, suc, ◌+◌, Bool, true, false, cond, ◌&&◌, List, drop, Some, None, Option, nat_lt}
use Rattle.keys.specs.Kind.{Kind}
use Rattle.tree.specs.declared.rule.Rule.{Rule}
use Rattle.tree.specs.Entries.{key_of, number_of, past}
use Rattle.tree.specs.Fields.{u32_at, u8_at}
use Rattle.tree.specs.Nodes.{Seen, is_block}
use Rattle.tree.specs.Nodes.Seen.{wrong, right}

module _ {K : Type 0} (κ : Kind K) where
  unfoldable pub kids_within : ℕ → ℕ → List ℕ → Bool
  kids_within count zero bs = true
  kids_within count (suc n) bs = cond (is_block count (number_of κ bs)) (kids_within count n (past κ bs)) false

  abbrev pub kid_by : K → ℕ → Option K → ℕ → ℕ
  kid_by k b None rest = b
  kid_by k b (Some j) rest = cond (κ.less k j) b rest

  unfoldable pub kid_at : K → ℕ → ℕ → List ℕ → ℕ
  kid_at k b zero bs = b
  kid_at k b (suc n) bs = kid_by k b (key_of κ bs) (kid_at k (number_of κ bs) n (past κ bs))

  abbrev pub place_by : K → ℕ → Option K → ℕ → ℕ
  place_by k a None rest = a
  place_by k a (Some j) rest = cond (κ.less k j) a rest

  unfoldable pub place_at : K → ℕ → ℕ → List ℕ → ℕ
  place_at k a zero bs = a
  place_at k a (suc n) bs = place_by k a (key_of κ bs) (place_at k (a + 1) n (past κ bs))

  abbrev pub record_by : K → ℕ → Option K → Option ℕ → Option ℕ
  record_by k v None rest = None
  record_by k v (Some j) rest = cond (κ.less j k) rest (cond (κ.less k j) None (Some v))

  unfoldable pub record_at : K → ℕ → List ℕ → Option ℕ
  record_at k zero bs = None
  record_at k (suc n) bs = record_by k (number_of κ bs) (key_of κ bs) (record_at k n (past κ bs))

  abbrev pub links_fit : ℕ → Bool → List ℕ → Bool
  links_fit count true bs = nat_lt (u32_at 4 bs) count
  links_fit count false bs = is_block count (u32_at 4 bs) && kids_within count (u8_at 1 bs) (drop 8 bs)

abbrev pub flaw_of : {A : Type 0} → Seen A → Option Rule
flaw_of (wrong r) = Some r
flaw_of (right d) = None
