-- Bytes, and numbers in bytes with the highest byte first.
--
-- all_bytes bs         whether each of bs is a byte: below 256
-- are_bytes k bs       whether bs are k bytes
-- big_endian k n       the number n in k bytes
-- from_bytes bs        the number that bytes are
use Rattle.std.specs.Prelude.{ℕ, zero, suc, ◌/◌, ◌%◌, Bool, true, ◌&&◌, List, [], ◌∷◌, ◌++◌, length, ◌==◌, nat_lt}
use Rattle.std.specs.Int.Digits.{number_from_digits}

unfoldable pub all_bytes : List ℕ → Bool
all_bytes [] = true
all_bytes (b ∷ bs) = nat_lt b 256 && all_bytes bs

abbrev pub are_bytes : ℕ → List ℕ → Bool
are_bytes k bs = length bs == k && all_bytes bs

abbrev pub big_endian : ℕ → ℕ → List ℕ
big_endian zero n = []
big_endian (suc k) n = big_endian k (n / 256) ++ (n % 256 ∷ [])

abbrev pub from_bytes : List ℕ → ℕ
from_bytes bs = number_from_digits 256 bs
