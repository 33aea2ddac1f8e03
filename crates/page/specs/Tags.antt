-- What a block holds, said by its first byte.
--
--   byte_of t     the byte that says it
use Rattle.std.specs.Prelude.{ℕ}
use Rattle.page.specs.declared.tag.Tag.{Tag}
use Rattle.page.specs.declared.tag.Tag.TheVariants.{Leaf, Inner, Free}

abbrev pub byte_of : Tag → ℕ
byte_of Leaf = 1
byte_of Inner = 2
byte_of Free = 3
