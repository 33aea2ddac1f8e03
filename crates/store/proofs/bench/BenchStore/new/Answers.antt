use Rattle.store.specs.Blocks.{zero_bytes}
use Rattle.store.proofs.bench.BenchStore.new.Goals as goal

pub invariant_of-result-clause-filled : goal.invariant_of-result-clause-filled
invariant_of-result-clause-filled c = zero_bytes 8192
