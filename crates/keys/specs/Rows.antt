-- Keys one after another in bytes: each at the front of an entry, the entries a stride apart.
--
-- front_key κ bs           the key in the first bytes of bs, if they are one
-- keys_of κ stride n bs    the keys of n entries, each stride bytes after the one before; None for one that cannot be read
-- rise_above κ low ks      whether all of ks can be read, and they rise strictly from above low
-- rise κ ks                whether all of ks can be read, and they rise strictly
-- rows_rise κ stride n bs  whether the keys of n entries can all be read, and rise strictly
-- rows_fit κ stride n bs   whether bs reach to the end of the last of n keys
use Rattle.std.specs.Prelude.{ℕ, zero, suc, ◌+◌, ◌-◌, ◌*◌, Bool, true, false, ◌&&◌, ◌||◌, List, [], ◌∷◌, length, take, drop, Some, None, Option, ◌==◌, nat_le}
use Rattle.keys.specs.Kind.{Kind}

module _ {K : Type 0} (κ : Kind K) where
  abbrev pub front_key : List ℕ → Option K
  front_key bs = κ.read (take κ.width bs)

  unfoldable pub keys_of : ℕ → ℕ → List ℕ → List (Option K)
  keys_of stride zero bs = []
  keys_of stride (suc n) bs = front_key bs ∷ keys_of stride n (drop stride bs)

  unfoldable pub rise_above : K → List (Option K) → Bool
  rise_above low [] = true
  rise_above low (None ∷ ks) = false
  rise_above low (Some k ∷ ks) = κ.less low k && rise_above k ks

  unfoldable pub rise : List (Option K) → Bool
  rise [] = true
  rise (None ∷ ks) = false
  rise (Some k ∷ ks) = rise_above k ks

  abbrev pub rows_rise : ℕ → ℕ → List ℕ → Bool
  rows_rise stride n bs = rise (keys_of stride n bs)

  abbrev pub rows_fit : ℕ → ℕ → List ℕ → Bool
  rows_fit stride n bs = n == 0 || nat_le ((n - 1) * stride + κ.width) (length bs)
