-- The laws of moments.
use Rattle.std.specs.Prelude.{◌≡◌, ℕ, zero, suc, ◌^◌, ◌<◌, ◌≤◌, true, cond, ltb, List, length, ℤ, pos, negsuc, neg_ℤ, Some, None, Option, FitsSigned, ◌≢◌, int_lt, nat_lt, refl}
use Rattle.std.proofs.Common.{sym, ap, subst, ◌∙◌, arith, to_z-of_z, Fits, to_z, of_z}
use mathlib.Core.HLevel.{is_prop→PathP}
use Rattle.std.proofs.Math.Bool.{Bool-set}
use Rattle.std.specs.Int.Signed.{mag}
use Rattle.std.proofs.Math.Facts.{of_z-to_z}
use Rattle.std.specs.Int.{w64}
use Rattle.std.specs.Int.Digits.{AllBelowBase}
use Rattle.std.proofs.lemmas.Int.Digits.{number_lt}
use Rattle.std.proofs.lemmas.Bool.{ltb-true, lt-ltb, le-ltb}
use Rattle.keys.specs.declared.moment.Moment.{Moment}
use Rattle.keys.specs.Bytes.{are_bytes, big_endian, from_bytes}
use Rattle.std.specs.Ordering.{int_cmp}
use Rattle.keys.specs.Kind.{order, Lawful, Only}
use Rattle.keys.specs.Kind.Only.{lower, higher, same}
use Rattle.keys.specs.Moments.{moment_less, moment_bytes, moment_at, moment_in, moment_of, moment_kind}
use Rattle.keys.specs.Digits.{under_big, from_big, big_from, written_bytes, bytes_parts, if_some, eight_is}
use Rattle.keys.specs.Order.{last_only}
use Rattle.keys.specs.WhenLemmas.{when_some, when_none}

pub same_moment : (a b : Moment) → a.seconds ≡ b.seconds → a ≡ b
same_moment a b p = λ i.
    record { seconds = p i; fits = is_prop→PathP (λ j. nat_lt (mag (p j)) (2 ^ 63) ≡ true) (λ j. Bool-set (nat_lt (mag (p j)) (2 ^ 63)) true) a.fits b.fits i }

abbrev value : ℤ → ℕ
value (pos n) = n
value (negsuc n) = n

never : {n m : ℕ} → pos n ≢ negsuc m
never e = let z : ◌≡◌ {A = ℕ} 0 1 = cc in omega arith

-- of two integers just one is less, or they are the same
integer_only : (x y : ℤ) → Only int_lt x y
integer_only (pos a) (pos b) =
    elim (last_only (λ (n : ℕ). n) a b (λ e. e)) [
      | lower p q r ↦ lower p q (λ e. r (ap value e))
      | higher p q r ↦ higher p q (λ e. r (ap value e))
      | same p q r ↦ same (ap pos p) q r
    ]
integer_only (pos a) (negsuc b) = higher refl refl never
integer_only (negsuc a) (pos b) = lower refl refl (λ e. never (sym e))
integer_only (negsuc a) (negsuc b) =
    elim (last_only (λ (n : ℕ). n) a b (λ e. e)) [
      | lower p q r ↦ higher p q (λ e. r (ap value e))
      | higher p q r ↦ lower p q (λ e. r (ap value e))
      | same p q r ↦ same (ap negsuc p) r q
    ]

integer_transitive : (x y z : ℤ) → int_lt x y ≡ true → int_lt y z ≡ true → int_lt x z ≡ true
integer_transitive (pos a) (pos b) (pos c) p q = lt-ltb a c (omega (arith, ltb-true a b p, ltb-true b c q))
integer_transitive (pos a) (pos b) (negsuc c) p q = q
integer_transitive (pos a) (negsuc b) z p q = absurd (let w : ◌≡◌ {A = ℕ} 0 1 = cc in omega arith)
integer_transitive (negsuc a) (pos b) (pos c) p q = refl
integer_transitive (negsuc a) (pos b) (negsuc c) p q = absurd (let w : ◌≡◌ {A = ℕ} 0 1 = cc in omega arith)
integer_transitive (negsuc a) (negsuc b) (pos c) p q = refl
integer_transitive (negsuc a) (negsuc b) (negsuc c) p q = lt-ltb c a (omega (arith, ltb-true b a p, ltb-true c b q))

pub moment_only : (a b : Moment) → Only moment_less a b
moment_only a b =
    elim (integer_only a.seconds b.seconds) [
      | lower p q r ↦ lower p q (λ e. r (ap (λ x. x.seconds) e))
      | higher p q r ↦ higher p q (λ e. r (ap (λ x. x.seconds) e))
      | same p q r ↦ same (same_moment a b p) q r
    ]

bits_small : (z : ℤ) → nat_lt (mag z) (2 ^ 63) ≡ true → of_z w64 z < 256 ^ 8
bits_small (pos n) e = let l = ltb-true (mag (pos n)) (2 ^ 63) e in omega arith
bits_small (negsuc n) e = let l = ltb-true (mag (negsuc n)) (2 ^ 63) e in omega arith

-- the moment in the bytes of a moment
pub moment_back : (a : Moment) → moment_in (moment_bytes a) ≡ a
unfolding moment_at
moment_back a =
    let n = of_z w64 a.seconds in
    let fits : FitsSigned w64 a.seconds = record { sfits = ltb-true (mag a.seconds) (2 ^ 63) a.fits } in
    same_moment (moment_in (moment_bytes a)) a (ap (to_z w64) (from_big 8 n (bits_small a.seconds a.fits)) ∙ to_z-of_z fits)

-- the bytes of the moment in bytes
pub moment_again : (bs : List ℕ) → length bs ≡ 8 → AllBelowBase 256 bs → moment_bytes (moment_in bs) ≡ bs
unfolding moment_at
moment_again bs l u =
    let e = eight_is bs l in
    let n : from_bytes bs < 256 ^ length bs = number_lt 256 bs u in
    let small : Fits w64 (from_bytes bs) = record { fits = (rw l at n) } in
    ap (λ xs. big_endian 8 (of_z w64 (to_z w64 (from_bytes xs)))) e ∙ (ap (big_endian 8) (of_z-to_z small) ∙ big_from 8 bs l u)

pub moment_lawful : Lawful moment_kind
moment_lawful =
    record {
      width_least = omega arith;
      width_most = omega arith;
      code_least = omega arith;
      code_most = omega arith;
      just_one = moment_only;
      transitive = λ a b c. integer_transitive a.seconds b.seconds c.seconds;
      as_wide = λ a. refl;
      in_bytes = λ a. under_big 8 (of_z w64 a.seconds);
      reads_back = λ a.
          ap (λ t. cond t (Some (moment_in (moment_bytes a))) None) (written_bytes 8 (moment_bytes a) refl (under_big 8 (of_z w64 a.seconds)))
          ∙ ap {B = Option Moment} Some (moment_back a);
      reads_only = λ bs a e.
          let r = if_some (are_bytes 8 bs) (moment_in bs) a e in
          let p = bytes_parts 8 bs r.0 in ap moment_bytes (sym r.1) ∙ moment_again bs p.0 p.1;
    }

-- the moment of its own seconds
pub moment_there : (a : Moment) (z : ℤ) → a.seconds ≡ z → moment_of z ≡ Some a
unfolding moment_of
moment_there a z e =
    let p : ltb (mag z) (2 ^ 63) ≡ true = subst (λ y. nat_lt (mag y) (2 ^ 63) ≡ true) e a.fits in
    when_some (nat_lt (mag z) (2 ^ 63)) _ p ∙ ap {B = Option Moment} Some (same_moment _ a (sym e))

pub no_moment : (z : ℤ) → 2 ^ 63 ≤ mag z → moment_of z ≡ None
unfolding moment_of
no_moment z h = when_none (nat_lt (mag z) (2 ^ 63)) _ (le-ltb (mag z) (2 ^ 63) h)

pub none_below : (n : ℕ) → 2 ^ 63 < n → moment_of (neg_ℤ (pos n)) ≡ None
none_below zero h = absurd (omega arith)
none_below (suc n) h = no_moment (negsuc n) (omega arith)

pub moment_ordered : (a b : Moment) → int_cmp a.seconds b.seconds ≡ order moment_kind a b
moment_ordered a b = refl
