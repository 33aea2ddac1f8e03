-- What a store means.
--
--   Meaning           blocks numbered from 0, their marks, and a tally of reads
--   Limits m          what every store keeps: few blocks, short ones, each of `size` bytes
--   tallied m         m after one read more
--   written m b xs    m after block b was written with xs: no mark stays on it
use Rattle.std.specs.Prelude.{◌≡◌, ℕ, ◌+◌, ◌%◌, ◌^◌, ◌<◌, ◌≤◌, cond, List, length, None, Option, ◌==◌}
use Rattle.store.specs.declared.fault.Fault.{Fault}
use Rattle.store.specs.Bytes.{Bytes}

-- `count` blocks of `size` bytes: what each one holds, the fault by which it cannot be read, if any,
-- and how many reads were asked for. Blocks from `count` on are not part of the store.
pub record Meaning : Type 0 where
  pub count : ℕ
  pub size : ℕ
  pub contents : ℕ → List ℕ
  pub mark : ℕ → Option Fault
  pub tally : ℕ

pub record Limits (m : Meaning) : Type 0 where
  pub few : m.count ≤ 1024
  pub short : m.size ≤ 512
  pub whole : (b : ℕ) → b < m.count → length (m.contents b) ≡ m.size
  pub bytes : (b : ℕ) → b < m.count → Bytes (m.contents b)

-- the tally has 64 bits and goes round
abbrev pub tallied : Meaning → Meaning
tallied m = record {
  count = m.count;
  size = m.size;
  contents = m.contents;
  mark = m.mark;
  tally = (m.tally + 1) % 2 ^ 64;
}

abbrev pub written : Meaning → ℕ → List ℕ → Meaning
written m b xs = record {
  count = m.count;
  size = m.size;
  contents = λ k. cond (k == b) xs (m.contents k);
  mark = λ k. cond (k == b) None (m.mark k);
  tally = m.tally;
}
