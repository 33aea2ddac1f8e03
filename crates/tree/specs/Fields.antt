-- Numbers in the bytes of a block: unsigned, the high byte first.
--
--   u8_at i bs, u16_at i bs, u32_at i bs    the number in the one, two or four bytes from i on
--   padded size bs                          bs and then zeros, size bytes in all
--   within lo hi n                          whether n is from lo to hi
use Rattle.std.specs.Prelude.{ℕ, ◌+◌, ◌-◌, ◌*◌, Bool, ◌&&◌, List, ◌++◌, length, take, drop, replicate, nat_le, slice_index}
use Rattle.keys.specs.Bytes.{from_bytes}

abbrev pub u8_at : ℕ → List ℕ → ℕ
u8_at i bs = slice_index bs i

abbrev pub u16_at : ℕ → List ℕ → ℕ
u16_at i bs = slice_index bs i * 256 + slice_index bs (i + 1)

abbrev pub u32_at : ℕ → List ℕ → ℕ
u32_at i bs = from_bytes (take 4 (drop i bs))

abbrev pub padded : ℕ → List ℕ → List ℕ
padded size bs = bs ++ replicate (size - length bs) 0

abbrev pub within : ℕ → ℕ → ℕ → Bool
within lo hi n = nat_le lo n && nat_le n hi
