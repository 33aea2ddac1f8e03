-- Moments as text: seconds in decimal, with a dash first if they are negative.
--
-- undashed cs              what follows the dash that comes first: all, if there is none
-- signed_of minus n        n, or minus n
-- moment_parts minus o     the moment of the number in o with this sign, if 64 bits hold it
-- moment_text cs           the moment that text is, if it is a number that 64 bits hold
-- moment_shown k           the text of a moment
use Rattle.std.specs.Prelude.{ℕ, ◌+◌, ◌^◌, Bool, true, false, cond, List, drop, ℤ, pos, neg_ℤ, Some, None, Option}
use Rattle.std.specs.Fmt.{signed_decimal}
use Rattle.keys.specs.declared.moment.Moment.{Moment}
use Rattle.numerals.specs.Decimals.{below, number_in}
use Rattle.keys.specs.Dashes.{dashed}
use Rattle.keys.specs.Moments.{moment_of}

abbrev pub undashed : List ℕ → List ℕ
undashed cs = cond (dashed cs) (drop 1 cs) cs

abbrev pub signed_of : Bool → ℕ → ℤ
signed_of true n = neg_ℤ (pos n)
signed_of false n = pos n

abbrev pub moment_parts : Bool → Option ℕ → Option Moment
moment_parts minus None = None
moment_parts minus (Some n) = moment_of (signed_of minus n)

abbrev pub moment_text : List ℕ → Option Moment
moment_text cs = moment_parts (dashed cs) (below (2 ^ 63 + 1) (number_in (undashed cs)))

abbrev pub moment_shown : Moment → List ℕ
moment_shown k = signed_decimal k.seconds
