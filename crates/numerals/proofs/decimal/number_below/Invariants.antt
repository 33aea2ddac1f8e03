use Rattle.std.proofs.Common.{◌≡◌, drop}
use Rattle.numerals.specs.Decimals.{number_in, number_on}
use Rattle.numerals.proofs.decimal.number_below.Given as goal

abbrev pub invariant-loop-digit : goal.invariant-loop-digit
invariant-loop-digit l = number_in l.digits ≡ number_on l.number (drop l.digit-index l.digits)
