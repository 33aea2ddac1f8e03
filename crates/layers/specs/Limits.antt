-- What a layer keeps, from what the store below keeps.
use Rattle.std.specs.Prelude.{ℕ, ◌+◌, ◌-◌, ◌<◌}
use Rattle.std.proofs.Common.{arith, length-take}
use Rattle.std.proofs.lemmas.Bool.Decides.{nat_tests}
use Rattle.layers.specs.Checks.{check}
use Rattle.layers.specs.Windows.{window}
use Rattle.store.specs.Meaning.{Meaning, Limits}
use Rattle.store.specs.Blocks.{block_bytes}

pub window_limits : (m : Meaning) (s n t : ℕ) → Limits m → Limits (window m s n t)
window_limits m s n t l = record {
  few = omega (arith, l.few);
  short = l.short;
  whole = λ b h. l.whole (s + b) (omega arith);
  bytes = λ b h. l.bytes (s + b) (omega arith);
}

pub check_limits : (m : Meaning) (t : ℕ) → Limits m → Limits (check m t)
check_limits m t l = record {
  few = grind (arith, nat_tests, l.few);
  short = omega (arith, l.short);
  whole = λ b h. let i : b < m.count = grind (arith, nat_tests) in simp length-take (omega (arith, l.whole b i));
  bytes = λ b h. let i : b < m.count = grind (arith, nat_tests) in block_bytes 0 (m.size - 2) (m.contents b) (l.bytes b i);
}
