-- Bytes as hexadecimal text.
--
--   hex_value c           the value of a hexadecimal digit of either case, or None if c is none
--   pair_value h l        the byte of a high and a low value, if both are there
--   hex_byte h l          the byte that two digits write
--   in_front b o          b before the bytes in o, if both are there
--   hex_digit v           the digit of a value below 16, a small letter from ten on
--   hex_text bs           the digits of bytes, two for each
--   hex_bytes cs          the bytes that digits write two by two, or None if one is no digit or has no other
use Rattle.std.specs.Prelude.{ℕ, ◌+◌, ◌-◌, ◌*◌, ◌/◌, ◌%◌, cond, ◌&&◌, List, [], ◌∷◌, Some, None, Option, nat_le, nat_lt}

abbrev pub hex_value : ℕ → Option ℕ
hex_value c =
    cond (nat_le 48 c && nat_le c 57) (Some (c - 48))
    (cond (nat_le 65 c && nat_le c 70) (Some (c - 55)) (cond (nat_le 97 c && nat_le c 102) (Some (c - 87)) None))

abbrev pub pair_value : Option ℕ → Option ℕ → Option ℕ
pair_value None l = None
pair_value (Some h) None = None
pair_value (Some h) (Some l) = Some (h * 16 + l)

unfoldable pub hex_byte : ℕ → ℕ → Option ℕ
hex_byte h l = pair_value (hex_value h) (hex_value l)

abbrev pub in_front : Option ℕ → Option (List ℕ) → Option (List ℕ)
in_front None o = None
in_front (Some b) None = None
in_front (Some b) (Some bs) = Some (b ∷ bs)

unfoldable pub hex_bytes : List ℕ → Option (List ℕ)
hex_bytes [] = Some []
hex_bytes (h ∷ []) = None
hex_bytes (h ∷ l ∷ cs) = in_front (hex_byte h l) (hex_bytes cs)

abbrev pub hex_digit : ℕ → ℕ
hex_digit v = cond (nat_lt v 10) (v + 48) (v + 87)

unfoldable pub hex_text : List ℕ → List ℕ
hex_text [] = []
hex_text (b ∷ bs) = hex_digit (b / 16) ∷ hex_digit (b % 16) ∷ hex_text bs
