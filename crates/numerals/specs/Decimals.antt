-- Decimal numbers as text.
--
--   is_digit c            whether a byte is one of the digits 0 to 9
--   number_on n cs        the number that digits write after digits that wrote n, or None if one is no digit
--   number_in cs          the number that digits write, or None if there are none, or one is no digit
--   below limit o         the number in o, if it is less than limit
use Rattle.std.specs.Prelude.{ℕ, ◌+◌, ◌-◌, ◌*◌, Bool, cond, ◌&&◌, List, [], ◌∷◌, Some, None, Option, nat_le, nat_lt}

abbrev pub is_digit : ℕ → Bool
is_digit c = nat_le 48 c && nat_le c 57

unfoldable pub number_on : ℕ → List ℕ → Option ℕ
number_on n [] = Some n
number_on n (c ∷ cs) = cond (is_digit c) (number_on (n * 10 + (c - 48)) cs) None

unfoldable pub number_in : List ℕ → Option ℕ
number_in [] = None
number_in (c ∷ cs) = number_on 0 (c ∷ cs)

abbrev pub below : ℕ → Option ℕ → Option ℕ
below limit None = None
below limit (Some n) = cond (nat_lt n limit) (Some n) None
