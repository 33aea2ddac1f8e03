-- Answers with their reads, by the plans that they follow.
use Rattle.std.proofs.Common.{◌≡◌, ℕ, Bool, List, Ok, Err, Result, sym, refl, ap, ◌∙◌}
use Rattle.index.specs.Rangings.{RangeEnd}
use Rattle.keys.specs.Kind.{Kind}
use Rattle.store.specs.Bytes.{overlaid}
use Rattle.store.specs.Meaning.{Meaning}
use Rattle.tree.specs.Entries.{write_entries}
use Rattle.tree.specs.declared.refusal.RangeRefusal.{RangeRefusal}
use Rattle.tree.specs.declared.refusal.Refusal.{Refusal}
use Rattle.tree.specs.Plans.{Outcome, bare, rise, told, with_reads}
use Rattle.tree.specs.Ranges.{range_told, standing}

-- a call began at tally t, and came to r
module _ (t before : ℕ) (m : Meaning) (began : before ≡ t) where
  told_is : {A : Type 0} (r : Result A Refusal) → with_reads (rise t m.tally) r ≡ told t (bare r, m)
  told_is (Ok a) = refl
  told_is (Err e) = refl

  pub told_by : {A : Type 0} (out : Outcome Unit A) (r : Result A Refusal) → out ≡ (bare r, m) → with_reads (rise before m.tally) r ≡ told t out
  told_by out r e = rw (began, e) (told_is r)

  pub range_told_by : {K : Type 0} (κ : Kind K) (buf : List ℕ) (r : Result (ℕ × Bool) RangeRefusal) (buf' : List ℕ) (out : Outcome (List (K × ℕ)) (List (K × ℕ) × Bool))
      → RangeEnd κ buf r buf' m out → with_reads (rise before m.tally) r ≡ range_told t out
  range_told_by κ buf (Ok a) buf' out E = rw (began, E.came) (ap (λ (n : ℕ). Ok ((n, a.1), rise t m.tally)) E.number)
  range_told_by κ buf (Err e) buf' out E =
      rw (began, E.came) (ap (λ (n : ℕ). Err (record { refusal = record { refusal = e.refusal; entries = n }; reads = rise t m.tally })) E.number)

-- what stands in the buffer
pub range_left : {K : Type 0} (κ : Kind K) (buf : List ℕ) (r : Result (ℕ × Bool) RangeRefusal) (buf' : List ℕ) (m : Meaning) (out : Outcome (List (K × ℕ)) (List (K × ℕ) × Bool))
    → RangeEnd κ buf r buf' m out → buf' ≡ overlaid buf 0 (write_entries κ (standing out.0))
range_left κ buf (Ok a) buf' m out E = E.filled ∙ ap (λ o. overlaid buf 0 (write_entries κ (standing o.0))) (sym E.came)
range_left κ buf (Err e) buf' m out E = E.filled ∙ ap (λ o. overlaid buf 0 (write_entries κ (standing o.0))) (sym E.came)
