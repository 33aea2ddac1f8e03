-- A call of the index by what it reads: a plan.
--
--   Plan P A         a plan that answers an A. Each read and each refusal carries a P: what stands in the
--                    caller's buffer if the call ends there
--   Stop P           how a plan was refused: what stood in the buffer, and the refusal
--   run m plan       what the plan answers at a store that means m, and what the store then means
--   reading c plan   the reading list: the blocks that the plan reads, in order, over the contents c if none is marked
--   bare r           an answer of a call that has no buffer, as a plan's
--   rise a b         how far a tally rose from a to b
--   with_reads n r   an answer or a refusal that carries n reads
--   told t out       what a call answers that began at tally t: a plan's answer with the reads made
use Rattle.std.specs.Prelude.{ℕ, ◌+◌, ◌-◌, ◌%◌, ◌^◌, List, [], ◌∷◌, Some, None, Ok, Err, Option, Result}
use Rattle.store.specs.declared.fault.Fault.{Fault}
use Rattle.store.specs.Calls.{refusal}
use Rattle.store.specs.Meaning.{Meaning, tallied}
use Rattle.tree.specs.declared.refusal.Refusal.{Refusal}
use Rattle.tree.specs.declared.refusal.Refusal.TheVariants.{Unreadable}
use Rattle.tree.specs.declared.refusal.Refused.{Refused}

pub data Plan (P A : Type 0) : Type 0 where
  done : A → Plan P A
  refuse : P → Refusal → Plan P A
  look : P → ℕ → (List ℕ → Plan P A) → Plan P A

pub record Stop (P : Type 0) : Type 0 where
  pub left : P
  pub why : Refusal

abbrev pub Outcome : Type 0 → Type 0 → Type 0
Outcome P A = Result A (Stop P) × Meaning

-- a read that comes to a mark ends the plan, and is tallied like any other
abbrev pub on_read : {P A : Type 0} → Option Fault → P → Meaning → Outcome P A → Outcome P A
on_read None p m out = out
on_read (Some f) p m out = (Err (record { left = p; why = Unreadable f }), tallied m)

unfoldable pub run : {P A : Type 0} → Meaning → Plan P A → Outcome P A
run m (done a) = (Ok a, m)
run m (refuse p r) = (Err (record { left = p; why = r }), m)
run m (look p b k) = on_read (refusal m b m.size) p m (run (tallied m) (k (m.contents b)))

unfoldable pub reading : {P A : Type 0} → (ℕ → List ℕ) → Plan P A → List ℕ
reading c (done a) = []
reading c (refuse p r) = []
reading c (look p b k) = b ∷ reading c (k (c b))

abbrev pub bare : {A : Type 0} → Result A Refusal → Result A (Stop Unit)
bare (Ok a) = Ok a
bare (Err r) = Err (record { left = tt; why = r })

-- tallies have 64 bits and go round
abbrev pub rise : ℕ → ℕ → ℕ
rise a b = (b + (2 ^ 64 - a)) % 2 ^ 64

abbrev pub with_reads : {A R : Type 0} → ℕ → Result A R → Result (A × ℕ) (Refused R)
with_reads n (Ok a) = Ok (a, n)
with_reads n (Err r) = Err (record { refusal = r; reads = n })

abbrev pub told : {A : Type 0} → ℕ → Outcome Unit A → Result (A × ℕ) (Refused Refusal)
told t (Ok a, m) = Ok (a, rise t m.tally)
told t (Err s, m) = Err (record { refusal = s.why; reads = rise t m.tally })
