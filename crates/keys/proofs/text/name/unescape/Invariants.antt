use Rattle.std.proofs.Common.{◌≡◌, ◌-◌, length}
use Rattle.keys.specs.NameText.{unescaped}
use Rattle.keys.specs.Escapes.{after}
use Rattle.keys.proofs.text.name.unescape.Given as goal

abbrev pub invariant-loop-rest : goal.invariant-loop-rest
invariant-loop-rest l = unescaped 8 l.word ≡ after l.bytes.items (unescaped (8 - length l.bytes.items) l.rest)

abbrev pub decreases-loop-rest : goal.decreases-loop-rest
decreases-loop-rest l = length l.rest
