-- The kind of lots.
--
-- lot_less a b         whether the lot a comes before b: by year, then by press, then by number
-- lot_bytes k          the bytes of a lot: year in two, press in one, number in four
-- lot_at y p n         the lot of a year, a press and a number, each cut to its width, which leaves one that fits
-- lot_in bs            the lot whose bytes begin bs
-- lot_kind             the kind of lots: code 1, seven bytes
use Rattle.std.specs.Prelude.{ℕ, ◌%◌, ◌^◌, Bool, cond, List, [], ◌∷◌, ◌++◌, Some, None, ◌==◌, nat_lt, slice_index}
use Rattle.std.proofs.Common.{arith}
use Rattle.keys.specs.declared.lot.Lot.{Lot}
use Rattle.keys.specs.Bytes.{are_bytes, big_endian, from_bytes}
use Rattle.keys.specs.Kind.{Kind}

abbrev pub lot_less : Lot → Lot → Bool
lot_less a b =
    cond (a.year == b.year)
    (cond (a.press == b.press) (nat_lt a.number b.number) (nat_lt a.press b.press))
    (nat_lt a.year b.year)

abbrev pub lot_bytes : Lot → List ℕ
lot_bytes k = big_endian 2 k.year ++ (k.press ∷ big_endian 4 k.number)

unfoldable pub lot_at : ℕ → ℕ → ℕ → Lot
lot_at y p n = record { year = y % 2 ^ 16; press = p % 2 ^ 8; number = n % 2 ^ 32; fits = (omega arith, omega arith, omega arith) }

abbrev pub lot_in : List ℕ → Lot
lot_in bs =
    lot_at (from_bytes (slice_index bs 0 ∷ slice_index bs 1 ∷ [])) (slice_index bs 2)
    (from_bytes (slice_index bs 3 ∷ slice_index bs 4 ∷ slice_index bs 5 ∷ slice_index bs 6 ∷ []))

abbrev pub lot_kind : Kind Lot
lot_kind =
    record {
      width = 7;
      code = 1;
      less = lot_less;
      write = lot_bytes;
      read = λ bs. cond (are_bytes 7 bs) (Some (lot_in bs)) None;
    }
