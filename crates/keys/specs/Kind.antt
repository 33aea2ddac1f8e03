-- What a kind of keys means, and the laws that every kind keeps.
--
-- Kind K               what a kind of keys means, whose keys are the values of K:
--   width                how many bytes a key takes
--   code                 the number of the kind
--   less a b             whether a comes before b
--   write k              the bytes of k
--   read bs              the key that bs are, or None if they are no key
-- Only less a b        just one of three: a is less, b is less, they are the same
-- Lawful κ             the laws of the kind κ
-- order κ a b          where a stands to b
-- write_answer κ out   what writing a key to the buffer out answers
-- written κ k out      what the buffer out holds after that
use Rattle.std.specs.Prelude.{◌≡◌, ℕ, ◌≤◌, Bool, true, false, cond, List, length, Some, Ok, Err, Option, Result, ◌==◌, ◌≢◌}
use Rattle.std.specs.declared.cmp.Ordering.TheVariants.{Less, Equal, Greater}
use Rattle.std.specs.declared.cmp.Ordering.{Ordering}
use Rattle.std.specs.Int.Digits.{AllBelowBase}
use Rattle.keys.specs.declared.key.WrongLength.{WrongLength}

pub record Kind (K : Type 0) : Type 0 where
  pub width : ℕ
  pub code : ℕ
  pub less : K → K → Bool
  pub write : K → List ℕ
  pub read : List ℕ → Option K

pub data Only {K : Type 0} (less : K → K → Bool) (a b : K) : Type 0 where
  lower : less a b ≡ true → less b a ≡ false → (a ≢ b) → Only less a b
  higher : less b a ≡ true → less a b ≡ false → (a ≢ b) → Only less a b
  same : a ≡ b → less a b ≡ false → less b a ≡ false → Only less a b

pub record Lawful {K : Type 0} (κ : Kind K) : Type 0 where
  pub width_least : 1 ≤ κ.width
  pub width_most : κ.width ≤ 32
  pub code_least : 1 ≤ κ.code
  pub code_most : κ.code ≤ 255
  pub just_one : (a b : K) → Only κ.less a b
  pub transitive : (a b c : K) → κ.less a b ≡ true → κ.less b c ≡ true → κ.less a c ≡ true
  pub as_wide : (a : K) → length (κ.write a) ≡ κ.width
  pub in_bytes : (a : K) → AllBelowBase 256 (κ.write a)
  pub reads_back : (a : K) → κ.read (κ.write a) ≡ Some a
  pub reads_only : (bs : List ℕ) (a : K) → κ.read bs ≡ Some a → κ.write a ≡ bs

abbrev pub order : {K : Type 0} → Kind K → K → K → Ordering
order κ a b = cond (κ.less a b) Less (cond (κ.less b a) Greater Equal)

abbrev pub write_answer : {K : Type 0} → Kind K → List ℕ → Result (Unit {0}) WrongLength
write_answer κ out = cond (length out == κ.width) (Ok tt) (Err (record {}))

abbrev pub written : {K : Type 0} → Kind K → K → List ℕ → List ℕ
written κ k out = cond (length out == κ.width) (κ.write k) out
