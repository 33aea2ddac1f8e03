-- The kind of moments.
--
-- moment_less a b      whether the moment a comes before b, as numbers
-- moment_bytes k       the bytes of a moment: two's complement in eight
-- bits_fit n           that the number which 64 bits are has a magnitude that fits
-- moment_at n          the moment whose 64 bits, as a number without sign, are n
-- moment_in bs         the moment whose bytes begin bs
-- moment_of z          the moment of so many seconds, if 64 bits hold them
-- moment_kind          the kind of moments: code 2, eight bytes
use Rattle.std.specs.Prelude.{◌≡◌, ℕ, suc, ◌-◌, ◌^◌, ◌≤◌, Bool, true, false, cond, List, [], ◌∷◌, ℤ, pos, negsuc, Some, None, Option, int_lt, nat_lt, slice_index, refl}
use Rattle.std.proofs.Common.{arith}
use Rattle.std.specs.Int.Signed.{mag}
use Rattle.std.specs.Int.{w64}
use mir.Val.{to_z, of_z, sel}
use Rattle.std.proofs.lemmas.Bool.{lt-ltb, ltb-false}
use Rattle.keys.specs.declared.moment.Moment.{Moment}
use Rattle.keys.specs.Bytes.{are_bytes, big_endian, from_bytes}
use Rattle.keys.specs.Kind.{Kind}
use Rattle.keys.specs.When.{when}

abbrev pub moment_less : Moment → Moment → Bool
moment_less a b = int_lt a.seconds b.seconds

abbrev pub moment_bytes : Moment → List ℕ
moment_bytes k = big_endian 8 (of_z w64 k.seconds)

pub bits_fit : (n : ℕ) → nat_lt (mag (to_z w64 n)) (2 ^ 63) ≡ true
bits_fit n = by (nat_lt n (2 ^ 63)) refl
  where
    by : (t : Bool) → nat_lt n (2 ^ 63) ≡ t → nat_lt (mag (sel t (pos n) (negsuc (2 ^ 64 - suc n)))) (2 ^ 63) ≡ true
    by true e = e
    by false e = lt-ltb (2 ^ 64 - suc n) (2 ^ 63) (let h : 2 ^ 63 ≤ n = ltb-false n (2 ^ 63) e in omega arith)

unfoldable pub moment_at : ℕ → Moment
moment_at n = record { seconds = to_z w64 n; fits = bits_fit n }

abbrev pub moment_in : List ℕ → Moment
moment_in bs =
    moment_at (from_bytes (slice_index bs 0 ∷ slice_index bs 1 ∷ slice_index bs 2 ∷ slice_index bs 3 ∷ slice_index bs 4 ∷ slice_index bs 5 ∷ slice_index bs 6 ∷ slice_index bs 7 ∷ []))

unfoldable pub moment_of : ℤ → Option Moment
moment_of z = when (nat_lt (mag z) (2 ^ 63)) (λ fits. record { seconds = z; fits = fits })

abbrev pub moment_kind : Kind Moment
moment_kind =
    record {
      width = 8;
      code = 2;
      less = moment_less;
      write = moment_bytes;
      read = λ bs. cond (are_bytes 8 bs) (Some (moment_in bs)) None;
    }
