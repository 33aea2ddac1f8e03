-- Lists of bytes.
--
--   Bytes xs             each number of xs is a byte
--   overlaid xs at ys    xs with ys in the place of what stood from `at` on
--   gathered n f         the lists f 0, f 1 and on, n of them, one after another
use Rattle.std.specs.Prelude.{ℕ, zero, suc, ◌+◌, ◌<◌, List, [], ◌++◌, length, take, drop, slice_index}

-- past the end of xs this says that 0 is below 256
abbrev pub Bytes : List ℕ → Type 0
Bytes xs = (k : ℕ) → slice_index xs k < 256

abbrev pub overlaid : List ℕ → ℕ → List ℕ → List ℕ
overlaid xs at ys = take at xs ++ (ys ++ drop (at + length ys) xs)

unfoldable pub gathered : ℕ → (ℕ → List ℕ) → List ℕ
gathered zero f = []
gathered (suc n) f = gathered n f ++ f n
