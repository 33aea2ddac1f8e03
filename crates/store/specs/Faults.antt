-- Faults: how a store refuses.
--
--   numbered cause    the number of a cause, 1 to 4
--   fault cause b     the fault of block b at depth 0
--   deeper f          the fault f one layer up
--   raised o          a mark one layer up
--   fault_shown f     the text of a fault
use Rattle.std.specs.Prelude.{ℕ, ◌+◌, min, List, ◌++◌, Some, None, Option, codes, decimal}
use Rattle.store.specs.declared.fault.Cause.{Cause}
use Rattle.store.specs.declared.fault.Cause.TheVariants.{NoSuchBlock, WrongBuffer, BadBlock, WrongCheck}
use Rattle.store.specs.declared.fault.Fault.{Fault}

abbrev pub numbered : Cause → ℕ
numbered NoSuchBlock = 1
numbered WrongBuffer = 2
numbered BadBlock = 3
numbered WrongCheck = 4

abbrev pub fault : Cause → ℕ → Fault
fault why b = record { cause = why; block = b; depth = 0 }

-- the depth goes no further than one byte
abbrev pub deeper : Fault → Fault
deeper f = record { cause = f.cause; block = f.block; depth = min (f.depth + 1) 255 }

abbrev pub raised : Option Fault → Option Fault
raised None = None
raised (Some f) = Some (deeper f)

abbrev pub fault_shown : Fault → List ℕ
fault_shown f = codes "cause=" ++ (decimal (numbered f.cause) ++ (codes " block=" ++ (decimal f.block ++ (codes " depth=" ++ decimal f.depth))))
