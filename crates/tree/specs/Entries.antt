-- Entries: a key and a number each, one after another in bytes.
--
--   entry_size κ              the bytes of an entry
--   key_of κ bs               the key at the front of bs, if it can be read
--   number_of κ bs            the number after it
--   past κ bs                 what follows the first entry
--   see_entries κ n bs        the n entries at the front of bs, if each key can be read
--   write_entries κ es        the bytes of entries
--   rises κ es                whether the keys rise strictly
--   part κ k es               the entries up to k and those past it
--   same_key κ a b            whether neither is less
--   lookup κ k es             the number of k
use Rattle.std.specs.Prelude.{ℕ, zero, suc, ◌+◌, Bool, true, false, cond, not, ◌&&◌, List, [], ◌∷◌, ◌++◌, take, drop, Some, None, Option}
use Rattle.keys.specs.Bytes.{big_endian, from_bytes}
use Rattle.keys.specs.Kind.{Kind}

pub record Parts (K : Type 0) : Type 0 where
  pub low : List (K × ℕ)
  pub high : List (K × ℕ)

abbrev pub join_entry : {K : Type 0} → Option K → ℕ → Option (List (K × ℕ)) → Option (List (K × ℕ))
join_entry None v o = None
join_entry (Some k) v None = None
join_entry (Some k) v (Some es) = Some ((k, v) ∷ es)

-- one more entry at the front of the low part
abbrev pub lower_by : {K : Type 0} → K × ℕ → Parts K → Parts K
lower_by e p = record { low = e ∷ p.low; high = p.high }

abbrev pub part_at : {K : Type 0} → Bool → K × ℕ → List (K × ℕ) → Parts K → Parts K
part_at true e es p = record { low = []; high = e ∷ es }
part_at false e es p = lower_by e p

module _ {K : Type 0} (κ : Kind K) where
  abbrev pub entry_size : ℕ
  entry_size = κ.width + 4

  abbrev pub key_of : List ℕ → Option K
  key_of bs = κ.read (take κ.width bs)

  abbrev pub number_of : List ℕ → ℕ
  number_of bs = from_bytes (take 4 (drop κ.width bs))

  abbrev pub past : List ℕ → List ℕ
  past bs = drop (κ.width + 4) bs

  unfoldable pub see_entries : ℕ → List ℕ → Option (List (K × ℕ))
  see_entries zero bs = Some []
  see_entries (suc n) bs = join_entry (key_of bs) (number_of bs) (see_entries n (past bs))

  unfoldable pub write_entries : List (K × ℕ) → List ℕ
  write_entries [] = []
  write_entries (e ∷ es) = (κ.write e.0 ++ big_endian 4 e.1) ++ write_entries es

  -- whether k comes before the first of es
  abbrev pub above : K → List (K × ℕ) → Bool
  above k [] = true
  above k (e ∷ es) = κ.less k e.0

  unfoldable pub rises : List (K × ℕ) → Bool
  rises [] = true
  rises (e ∷ es) = above e.0 es && rises es

  unfoldable pub part : K → List (K × ℕ) → Parts K
  part k [] = record { low = []; high = [] }
  part k (e ∷ es) = part_at (κ.less k e.0) e es (part k es)

  abbrev pub same_key : K → K → Bool
  same_key a b = not (κ.less a b) && not (κ.less b a)

  unfoldable pub lookup : K → List (K × ℕ) → Option ℕ
  lookup k [] = None
  lookup k (e ∷ es) = cond (same_key k e.0) (Some e.1) (lookup k es)
