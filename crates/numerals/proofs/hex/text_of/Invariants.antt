use Rattle.std.proofs.Common.{◌≡◌, take, string_bytes}
use Rattle.numerals.specs.Hexadecimals.{hex_text}
use Rattle.numerals.proofs.hex.text_of.Given as goal

abbrev pub invariant-loop-byte : goal.invariant-loop-byte
invariant-loop-byte l = string_bytes l.text ≡ hex_text (take l.byte-index l.bytes)
