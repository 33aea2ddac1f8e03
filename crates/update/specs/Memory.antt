-- What an insert has in memory on its way up.
--
--   Sprung size g a r     memory holds what grew: the writes, the blocks left, and what goes up
use Rattle.std.specs.Prelude.{◌≡◌, ℕ, Option}
use Rattle.tree.specs.Inserts.{Grown}
use Rattle.update.specs.declared.growth.Growth.{Growth}
use Rattle.update.specs.Batches.{stacked}

pub record Sprung {K : Type 0} (size : ℕ) (g : Grown K) (a : Growth) (r : Option (K × ℕ)) : Type 0 where
  pub writes : stacked a.batch size ≡ g.writes
  pub spare : a.spare ≡ g.spare
  pub up : r ≡ g.up
