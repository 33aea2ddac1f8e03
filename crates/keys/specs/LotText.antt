-- Lots as text: year, press and number in decimal, with a dash between them.
--
-- lot_parts y p n          the lot of three numbers, if each is there
-- lot_text cs              the lot that text is, if each of its three parts is a number that fits its width
-- lot_shown k              the text of a lot
use Rattle.std.specs.Prelude.{ℕ, ◌^◌, List, ◌++◌, Some, None, codes, decimal, Option}
use Rattle.keys.specs.declared.lot.Lot.{Lot}
use Rattle.numerals.specs.Decimals.{below, number_in}
use Rattle.keys.specs.Dashes.{past_dash, to_dash}
use Rattle.keys.specs.Lots.{lot_at}

abbrev pub lot_parts : Option ℕ → Option ℕ → Option ℕ → Option Lot
lot_parts None p n = None
lot_parts (Some y) None n = None
lot_parts (Some y) (Some p) None = None
lot_parts (Some y) (Some p) (Some n) = Some (lot_at y p n)

abbrev pub lot_text : List ℕ → Option Lot
lot_text cs =
    lot_parts (below (2 ^ 16) (number_in (to_dash cs))) (below (2 ^ 8) (number_in (to_dash (past_dash cs))))
    (below (2 ^ 32) (number_in (past_dash (past_dash cs))))

abbrev pub lot_shown : Lot → List ℕ
lot_shown k = decimal k.year ++ (codes "-" ++ (decimal k.press ++ (codes "-" ++ decimal k.number)))
