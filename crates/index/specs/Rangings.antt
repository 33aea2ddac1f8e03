-- A range, as the code goes through it.
--
--   entries_of r            how many entries stand in the buffer, by an answer or a refusal
--   ended out r             how a range's plan ended with the entries out in the buffer
--   RangeEnd κ buf r buf' m out     a range over a buffer that held buf ended with r, buf' in the buffer and the
--                           meaning m: what its plan comes to is `out`
use Rattle.std.specs.Prelude.{◌≡◌, ℕ, Bool, List, length, Ok, Err, Result}
use Rattle.keys.specs.Kind.{Kind}
use Rattle.store.specs.Bytes.{overlaid}
use Rattle.store.specs.Meaning.{Meaning}
use Rattle.tree.specs.declared.refusal.RangeRefusal.{RangeRefusal}
use Rattle.tree.specs.Entries.{write_entries}
use Rattle.tree.specs.Plans.{Outcome, Stop}

abbrev pub entries_of : Result (ℕ × Bool) RangeRefusal → ℕ
entries_of (Ok a) = a.0
entries_of (Err e) = e.entries

abbrev pub ended : {K : Type 0} → List (K × ℕ) → Result (ℕ × Bool) RangeRefusal → Result (List (K × ℕ) × Bool) (Stop (List (K × ℕ)))
ended out (Ok a) = Ok (out, a.1)
ended out (Err e) = Err (record { left = out; why = e.refusal })

pub record RangeEnd {K : Type 0} (κ : Kind K) (buf : List ℕ) (r : Result (ℕ × Bool) RangeRefusal) (buf' : List ℕ) (m : Meaning) (outcome : Outcome (List (K × ℕ)) (List (K × ℕ) × Bool)) : Type 0 where
  pub out : List (K × ℕ)
  pub number : entries_of r ≡ length out
  pub filled : buf' ≡ overlaid buf 0 (write_entries κ out)
  pub came : outcome ≡ (ended out r, m)
