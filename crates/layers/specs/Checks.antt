-- What a check layer means, from what the store below means.
--
--   check_number xs b    the sum of xs and the block number b, modulo 65,536
--   stored xs i          the number in the two bytes of xs from i on
--   holds xs b           whether the last two bytes of xs are the check number of the others, as block b
--   sealed xs b          xs and then its check number as block b
--   check_mark m b       the mark of block b over a store that means m
--   check m t            the blocks of m without their check numbers, after t reads of the layer
--   checked below c      the meaning of the layer c, where `below` says what its store below means
use Rattle.std.specs.Prelude.{ℕ, ◌+◌, ◌-◌, ◌*◌, ◌/◌, ◌%◌, Bool, cond, List, [], ◌∷◌, ◌++◌, length, take, Some, None, sum, Option, ◌==◌, nat_lt, slice_index}
use Rattle.layers.specs.declared.check.Check.{Check}
use Rattle.store.specs.declared.fault.Fault.{Fault}
use Rattle.store.specs.declared.fault.Cause.TheVariants.{WrongCheck}
use Rattle.store.specs.Calls.{or_else}
use Rattle.store.specs.Faults.{fault, raised}
use Rattle.store.specs.Meaning.{Meaning}

abbrev pub check_number : List ℕ → ℕ → ℕ
check_number xs b = (sum xs + b) % 65536

abbrev pub stored : List ℕ → ℕ → ℕ
stored xs i = slice_index xs i * 256 + slice_index xs (i + 1)

abbrev pub holds : List ℕ → ℕ → Bool
holds xs b = check_number (take (length xs - 2) xs) b == stored xs (length xs - 2)

abbrev pub sealed : List ℕ → ℕ → List ℕ
sealed xs b = xs ++ (check_number xs b / 256 ∷ check_number xs b % 256 ∷ [])

-- a mark from below comes first
abbrev pub check_mark : Meaning → ℕ → Option Fault
check_mark m b = or_else (raised (m.mark b)) (cond (holds (m.contents b) b) None (Some (fault WrongCheck b)))

-- a block of fewer than three bytes has no room for a check number and a byte
abbrev pub check : Meaning → ℕ → Meaning
check m t = record {
  count = cond (nat_lt m.size 3) 0 m.count;
  size = m.size - 2;
  contents = λ b. take (m.size - 2) (m.contents b);
  mark = check_mark m;
  tally = t;
}

abbrev pub checked : {S : Type 0} → (S → Meaning) → Check S → Meaning
checked below c = check (below c.below) c.tally
