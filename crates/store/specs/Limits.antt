-- What both bottom stores keep.
use Rattle.std.specs.Prelude.{◌*◌, vec_items}
use Rattle.std.proofs.Common.{arith, lit≤}
use Rattle.store.specs.declared.bench.BenchStore.{BenchStore}
use Rattle.store.specs.declared.plain.PlainStore.{PlainStore}
use Rattle.store.specs.BenchMeaning.{bench}
use Rattle.store.specs.Meaning.{Limits}
use Rattle.store.specs.PlainMeaning.{plain}
use Rattle.store.specs.Blocks.{block_length, block_bytes}

pub plain_limits : (s : PlainStore) → Limits (plain s)
plain_limits s = record {
  few = s.few;
  short = s.short;
  whole = λ b h. block_length b s.count s.size (vec_items s.bytes) h (omega arith);
  bytes = λ b h. block_bytes (b * s.size) s.size (vec_items s.bytes) s.filled;
}

pub bench_limits : (s : BenchStore) → Limits (bench s)
bench_limits s = record {
  few = lit≤ tt;
  short = lit≤ tt;
  whole = λ b h. block_length b 64 128 s.blocks.bytes h (omega (arith, s.whole));
  bytes = λ b h. block_bytes (b * 128) 128 s.blocks.bytes s.filled;
}
