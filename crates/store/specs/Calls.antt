-- What a store's calls answer and what they leave.
--
--   misfit c s b n    the fault of naming block b of c with a buffer of n bytes where blocks have s
--   misuse m b n      the same of a store that means m
--   refusal m b n     the fault of a read: misuse first, then the block's mark
--   answered o        a call's answer: refused by the fault in o, or done
--   unless o x y      x where there is no fault, else y
--   Read m b xs r ys n     a read of block b into a buffer that held xs answers r,
--                          leaves ys in the buffer and n as the store's meaning
--   Wrote m b xs r n       a write of xs to block b answers r and leaves n as the store's meaning
use Rattle.std.specs.Prelude.{◌≡◌, ℕ, cond, List, length, Some, None, Ok, Err, Option, Result, ◌==◌, nat_lt}
use Rattle.store.specs.declared.fault.Fault.{Fault}
use Rattle.store.specs.declared.fault.Cause.TheVariants.{NoSuchBlock, WrongBuffer}
use Rattle.store.specs.Faults.{fault}
use Rattle.store.specs.Meaning.{Meaning, tallied, written}

abbrev pub misfit : ℕ → ℕ → ℕ → ℕ → Option Fault
misfit c s b n = cond (nat_lt b c) (cond (n == s) None (Some (fault WrongBuffer b))) (Some (fault NoSuchBlock b))

abbrev pub misuse : Meaning → ℕ → ℕ → Option Fault
misuse m b n = misfit m.count m.size b n

-- the first fault of two
abbrev pub or_else : Option Fault → Option Fault → Option Fault
or_else None o = o
or_else (Some f) o = Some f

abbrev pub refusal : Meaning → ℕ → ℕ → Option Fault
refusal m b n = or_else (misuse m b n) (m.mark b)

abbrev pub answered : Option Fault → Result Unit Fault
answered None = Ok tt
answered (Some f) = Err f

abbrev pub unless : {X : Type 0} → Option Fault → X → X → X
unless None x y = x
unless (Some f) x y = y

pub record Read (m : Meaning) (b : ℕ) (xs : List ℕ) (r : Result Unit Fault) (ys : List ℕ) (n : Meaning) : Type 0 where
  pub answer : r ≡ answered (refusal m b (length xs))
  pub filled : ys ≡ unless (refusal m b (length xs)) (m.contents b) xs
  pub after : n ≡ tallied m

pub record Wrote (m : Meaning) (b : ℕ) (xs : List ℕ) (r : Result Unit Fault) (n : Meaning) : Type 0 where
  pub answer : r ≡ answered (misuse m b (length xs))
  pub after : n ≡ unless (misuse m b (length xs)) (written m b xs) m
