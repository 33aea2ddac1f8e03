-- What a card of the tool means: the meaning of the store or pile that it is.
--
--   card c      the meaning of the card c
use Rattle.layers.specs.Checks.{checked}
use Rattle.layers.specs.Windows.{windowed}
use Rattle.pix.specs.declared.card.Card.{Card}
use Rattle.pix.specs.declared.card.Card.TheVariants.{Plain, Checked, Windowed, Piled, Bench, CheckedBench}
use Rattle.store.specs.BenchMeaning.{bench}
use Rattle.store.specs.Meaning.{Meaning}
use Rattle.store.specs.PlainMeaning.{plain}

abbrev pub card : Card → Meaning
card (Plain s) = plain s
card (Checked s) = checked plain s
card (Windowed s) = windowed plain s
card (Piled s) = checked (windowed plain) s
card (Bench s) = bench s
card (CheckedBench s) = checked bench s
