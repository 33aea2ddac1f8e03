use Rattle.std.proofs.Common.{◌≡◌, ◌*◌, drop, vec_items}
use Rattle.numerals.specs.Hexadecimals.{hex_bytes}
use Rattle.numerals.proofs.HexSteps.{after}
use Rattle.numerals.proofs.hex.bytes_of.Given as goal

abbrev pub invariant-loop-pair : goal.invariant-loop-pair
invariant-loop-pair l = hex_bytes l.digits ≡ after (vec_items l.bytes) (hex_bytes (drop (2 * l.pair-index) l.digits))
