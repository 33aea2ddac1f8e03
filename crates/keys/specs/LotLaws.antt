-- The laws of lots.
use Rattle.std.specs.Prelude.{◌≡◌, ℕ, ◌%◌, ◌^◌, ◌<◌, true, cond, ltb, List, [], ◌∷◌, ◌++◌, length, Some, None, Option, nat_lt, refl}
use Rattle.std.proofs.Common.{sym, ap, ◌∙◌, arith}
use mathlib.Core.HLevel.{is_prop→PathP}
use Rattle.std.proofs.Math.Bridge.{le_prop}
use Rattle.std.specs.Int.Digits.{AllBelowBase}
use Rattle.std.proofs.ByRecursion.{All-append}
use Rattle.std.proofs.lemmas.Bool.Decides.{nat_tests}
use Rattle.keys.specs.declared.lot.Lot.{Lot}
use Rattle.keys.specs.Bytes.{are_bytes, big_endian, from_bytes}
use Rattle.keys.specs.Kind.{Lawful, Only, order}
use Rattle.std.specs.Ordering.{nat_cmp, ordering_then}
use Rattle.keys.specs.Lots.{lot_less, lot_bytes, lot_at, lot_in, lot_kind}
use Rattle.keys.specs.Digits.{under_big, from_big, big_from, written_bytes, bytes_parts, if_some}
use Rattle.keys.specs.Order.{by_first, first_only, last_only, then_standing, nat_standing}

pub same_lot : (a b : Lot) → a.year ≡ b.year → a.press ≡ b.press → a.number ≡ b.number → a ≡ b
same_lot a b p q r = λ i.
    record {
      year = p i;
      press = q i;
      number = r i;
      fits = (
        is_prop→PathP (λ j. p j < 2 ^ 16) (λ j. le_prop) a.fits.0 b.fits.0 i,
        is_prop→PathP (λ j. q j < 2 ^ 8) (λ j. le_prop) a.fits.1 b.fits.1 i,
        is_prop→PathP (λ j. r j < 2 ^ 32) (λ j. le_prop) a.fits.2 b.fits.2 i,
      );
    }

pub lot_only : (a b : Lot) → Only lot_less a b
lot_only a b =
    first_only lot_less (λ x. x.year) (λ x y. by_first x.press y.press (nat_lt x.number y.number)) (λ x y. refl) a b (λ p.
    first_only (λ x y. by_first x.press y.press (nat_lt x.number y.number)) (λ x. x.press) (λ x y. ltb x.number y.number) (λ x y. refl) a b (λ q.
    last_only (λ x. x.number) a b (λ r. same_lot a b p q r)))

pub lot_transitive : (a b c : Lot) → lot_less a b ≡ true → lot_less b c ≡ true → lot_less a c ≡ true
lot_transitive a b c h k = grind (arith, nat_tests)

pub lot_under : (a : Lot) → AllBelowBase 256 (lot_bytes a)
lot_under a = All-append (λ d. d < 256) (big_endian 2 a.year) (a.press ∷ big_endian 4 a.number) (under_big 2 a.year) (let f = a.fits in omega arith, under_big 4 a.number)

pub lot_back : (a : Lot) → lot_in (lot_bytes a) ≡ a
unfolding lot_at
lot_back a =
    let f = a.fits in
    let y : from_bytes (big_endian 2 a.year) ≡ a.year = from_big 2 a.year (omega arith) in
    let n : from_bytes (big_endian 4 a.number) ≡ a.number = from_big 4 a.number (omega arith) in
    same_lot (lot_in (lot_bytes a)) a (ap (λ x. x % 2 ^ 16) y ∙ omega arith) (omega arith) (ap (λ x. x % 2 ^ 32) n ∙ omega arith)

pub lot_again : (bs : List ℕ) → length bs ≡ 7 → AllBelowBase 256 bs → lot_bytes (lot_in bs) ≡ bs
unfolding lot_at
lot_again [] l u = absurd (omega arith)
lot_again (a ∷ []) l u = absurd (omega arith)
lot_again (a ∷ b ∷ []) l u = absurd (omega arith)
lot_again (a ∷ b ∷ c ∷ []) l u = absurd (omega arith)
lot_again (a ∷ b ∷ c ∷ d ∷ []) l u = absurd (omega arith)
lot_again (a ∷ b ∷ c ∷ d ∷ e ∷ []) l u = absurd (omega arith)
lot_again (a ∷ b ∷ c ∷ d ∷ e ∷ f ∷ []) l u = absurd (omega arith)
lot_again (a ∷ b ∷ c ∷ d ∷ e ∷ f ∷ g ∷ []) l u =
    let y : from_bytes (a ∷ b ∷ []) % 2 ^ 16 ≡ from_bytes (a ∷ b ∷ []) = omega arith in
    let p : c % 2 ^ 8 ≡ c = omega arith in
    let n : from_bytes (d ∷ e ∷ f ∷ g ∷ []) % 2 ^ 32 ≡ from_bytes (d ∷ e ∷ f ∷ g ∷ []) = omega arith in
    let i : big_endian 2 (from_bytes (a ∷ b ∷ [])) ≡ a ∷ b ∷ [] = big_from 2 (a ∷ b ∷ []) refl (u.0, (u.1.0, tt)) in
    let j : big_endian 4 (from_bytes (d ∷ e ∷ f ∷ g ∷ [])) ≡ d ∷ e ∷ f ∷ g ∷ [] = big_from 4 (d ∷ e ∷ f ∷ g ∷ []) refl u.1.1.1 in
    join (ap (big_endian 2) y ∙ i) p (ap (big_endian 4) n ∙ j)
  where
    join : {xs xs' ys ys' : List ℕ} {z z' : ℕ} → xs ≡ xs' → z ≡ z' → ys ≡ ys' → xs ++ (z ∷ ys) ≡ xs' ++ (z' ∷ ys')
    join p q r = λ k. p k ++ (q k ∷ r k)
lot_again (a ∷ b ∷ c ∷ d ∷ e ∷ f ∷ g ∷ h ∷ bs) l u = absurd (omega arith)

pub lot_lawful : Lawful lot_kind
lot_lawful =
    record {
      width_least = omega arith;
      width_most = omega arith;
      code_least = omega arith;
      code_most = omega arith;
      just_one = lot_only;
      transitive = lot_transitive;
      as_wide = λ a. refl;
      in_bytes = lot_under;
      reads_back = λ a. ap (λ t. cond t (Some (lot_in (lot_bytes a))) None) (written_bytes 7 (lot_bytes a) refl (lot_under a)) ∙ ap {B = Option Lot} Some (lot_back a);
      reads_only = λ bs a e.
          let r = if_some (are_bytes 7 bs) (lot_in bs) a e in
          let p = bytes_parts 7 bs r.0 in ap lot_bytes (sym r.1) ∙ lot_again bs p.0 p.1;
    }

pub lot_ordered : (a b : Lot) → ordering_then (nat_cmp a.year b.year) (ordering_then (nat_cmp a.press b.press) (nat_cmp a.number b.number)) ≡ order lot_kind a b
lot_ordered a b = then_standing a.year b.year _ _ _ (then_standing a.press b.press _ _ _ (nat_standing a.number b.number))
