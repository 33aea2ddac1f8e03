-- What a window means, from what the store below means.
--
--   window m s n t      the blocks of m from s on, at most n, after t reads of the window
--   windowed below w    the meaning of the window w, where `below` says what its store below means
use Rattle.std.specs.Prelude.{ℕ, ◌+◌, ◌-◌, min}
use Rattle.layers.specs.declared.window.Window.{Window}
use Rattle.store.specs.Faults.{raised}
use Rattle.store.specs.Meaning.{Meaning}

abbrev pub window : Meaning → ℕ → ℕ → ℕ → Meaning
window m s n t = record {
  count = min (m.count - s) n;
  size = m.size;
  contents = λ b. m.contents (s + b);
  mark = λ b. raised (m.mark (s + b));
  tally = t;
}

abbrev pub windowed : {S : Type 0} → (S → Meaning) → Window S → Meaning
windowed below w = window (below w.below) w.start w.most w.tally
