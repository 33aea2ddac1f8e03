use Rattle.std.proofs.Common.{◌≡◌, ℕ, ◌<◌, List, ◌∷◌, length, get_or, Some, None, Option, refl, ap, ◌∙◌, arith}
use Rattle.std.proofs.lemmas.List.{get_or_past}
use Rattle.numerals.specs.Hexadecimals.{hex_byte, hex_value, pair_value}
use Rattle.keys.specs.NameText.{first_byte}
use Rattle.keys.proofs.text.name.first.Goals as goal

no_low : (h : ℕ) → hex_byte h 0 ≡ None
unfolding hex_byte
no_low h = by (hex_value h)
  where
    by : (o : Option ℕ) → pair_value o None ≡ None
    by None = refl
    by (Some v) = refl

-- a per cent sign with fewer than two bytes after it
short_escape : (c : ℕ) (cs : List ℕ) → c ≡ 37 → length cs < 2 → first_byte (c ∷ cs) ≡ None
short_escape c cs e h = rw (e, get_or_past cs 1 0 (omega arith)) (no_low (get_or cs 0 0))

pub returns-in_default : goal.returns-in_default
returns-in_default c =
    ap first_byte c.in_ok-first.ensures.cases.0 ∙ short_escape c.in_ok-first.first.now c.in_ok-first.rest.now c.if-first-ne37.false c.in_default.len_below
