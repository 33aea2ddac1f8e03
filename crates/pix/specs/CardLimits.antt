-- What every store keeps, for each card.
use Rattle.layers.specs.Limits.{check_limits, window_limits}
use Rattle.layers.specs.Windows.{windowed}
use Rattle.pix.specs.declared.card.Card.{Card}
use Rattle.pix.specs.declared.card.Card.TheVariants.{Plain, Checked, Windowed, Piled, Bench, CheckedBench}
use Rattle.pix.specs.Cards.{card}
use Rattle.store.specs.BenchMeaning.{bench}
use Rattle.store.specs.Limits.{bench_limits, plain_limits}
use Rattle.store.specs.Meaning.{Limits}
use Rattle.store.specs.PlainMeaning.{plain}

pub card_limits : (c : Card) → Limits (card c)
card_limits (Plain s) = plain_limits s
card_limits (Checked s) = check_limits (plain s.below) s.tally (plain_limits s.below)
card_limits (Windowed s) = window_limits (plain s.below) s.start s.most s.tally (plain_limits s.below)
card_limits (Piled s) =
    let w = s.below in
    check_limits (windowed plain w) s.tally (window_limits (plain w.below) w.start w.most w.tally (plain_limits w.below))
card_limits (Bench s) = bench_limits s
card_limits (CheckedBench s) = check_limits (bench s.below) s.tally (bench_limits s.below)
