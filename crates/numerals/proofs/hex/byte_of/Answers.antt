use Rattle.std.proofs.Common.{rules}
use Rattle.numerals.specs.Hexadecimals.{hex_byte}
use Rattle.numerals.proofs.hex.byte_of.Goals as goal

pub returns-in_err-high : goal.returns-in_err-high
unfolding hex_byte
returns-in_err-high c = search rules

pub returns-in_err-low : goal.returns-in_err-low
unfolding hex_byte
returns-in_err-low c = search rules

pub returns : goal.returns
unfolding hex_byte
returns c = search rules
