-- What is known of a call that was not refused.
use Rattle.std.proofs.Common.{◌≡◌, ℕ, ◌<◌, None, Ok, arith}
use Rattle.std.proofs.lemmas.Bool.Decides.{nat_tests}
use Rattle.store.specs.Calls.{misfit, answered}

-- the block is there, the buffer fits, and nothing is refused
pub fitting : (c s b n : ℕ) → Ok tt ≡ answered (misfit c s b n) → (b < c) × (n ≡ s) × (misfit c s b n ≡ None)
fitting c s b n e = (grind (arith, nat_tests), grind (arith, nat_tests), grind (arith, nat_tests))
