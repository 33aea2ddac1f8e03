-- Blocks to be written, as a list of writes: the newest first.
--
--   cut size w          the write w to a block of that size
--   stacked b size      the writes that the batch b holds for blocks of that size
use Rattle.std.specs.Prelude.{ℕ, List, take, map, reverse}
use Rattle.tree.specs.Inserts.{Writes}
use Rattle.update.specs.declared.batch.Write.{Write}

abbrev pub cut : ℕ → Write → ℕ × List ℕ
cut size w = (w.block, take size w.page)

abbrev pub stacked : List Write → ℕ → Writes
stacked b size = map (cut size) (reverse b)
