-- What the bench store means.
--
--   kept xs t       64 blocks of 128 bytes that lie one after another in xs, none marked, t reads
--   bench s         the meaning of the bench store s
use Rattle.std.specs.Prelude.{ℕ, ◌*◌, List, take, drop, None}
use Rattle.store.specs.declared.bench.BenchStore.{BenchStore}
use Rattle.store.specs.Meaning.{Meaning}

abbrev pub kept : List ℕ → ℕ → Meaning
kept xs t = record {
  count = 64;
  size = 128;
  contents = λ b. take 128 (drop (b * 128) xs);
  mark = λ b. None;
  tally = t;
}

abbrev pub bench : BenchStore → Meaning
bench s = kept s.blocks.bytes s.tally
