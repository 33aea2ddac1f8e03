-- What is shown of a key is read back as that key.
use Rattle.std.specs.Prelude.{◌≡◌, ℕ, suc, ◌+◌, ◌-◌, ◌*◌, ◌/◌, ◌%◌, ◌^◌, ◌<◌, Bool, true, false, cond, List, [], ◌∷◌, ◌++◌, length, drop, ℤ, pos, negsuc, Some, None, decimal, Option, ◌==◌, nat_le, nat_lt, refl}
use Rattle.std.proofs.Common.{ap, subst, ◌∙◌, arith, length-append}
use Rattle.std.specs.Int.Signed.{mag}
use Rattle.std.specs.List.{AllByRecursion}
use Rattle.std.specs.Fmt.{signed_decimal}
use Rattle.std.proofs.lemmas.Fmt.{decimal_by_steps}
use Rattle.std.proofs.ByRecursion.{All-push}
use Rattle.std.proofs.lemmas.Bool.{and_from, le-leb, lt-ltb, ltb-true, ne_eqb, both_ways}
use Rattle.keys.specs.declared.lot.Lot.{Lot}
use Rattle.keys.specs.declared.moment.Moment.{Moment}
use Rattle.numerals.specs.Decimals.{is_digit, number_on, number_in, below}
use Rattle.keys.specs.Dashes.{dashed, to_dash, past_dash}
use Rattle.keys.specs.Lots.{lot_at}
use Rattle.keys.specs.LotText.{lot_parts, lot_text, lot_shown}
use Rattle.keys.specs.MomentText.{moment_parts, moment_text, moment_shown}
use Rattle.numerals.proofs.DecimalSteps.{number_start}
use Rattle.keys.specs.LotLaws.{same_lot}
use Rattle.keys.specs.MomentLaws.{moment_there}

abbrev Digit : ℕ → Type 0
Digit c = is_digit c ≡ true

-- what holds of the digits of a number
record Figures (n : ℕ) (ds : List ℕ) : Type 0 where
  value : number_on 0 ds ≡ Some n
  digits : AllByRecursion Digit ds
  some : 0 < length ds

digit_of : (n : ℕ) → n < 10 → Digit (48 + n)
digit_of n h = and_from (nat_le 48 (48 + n)) (nat_le (48 + n) 57) (le-leb 48 (48 + n) (omega arith)) (le-leb (48 + n) 57 (omega arith))

number_push : (a : ℕ) (ds : List ℕ) (c m : ℕ) → number_on a ds ≡ Some m → Digit c → number_on a (ds ++ (c ∷ [])) ≡ Some (m * 10 + (c - 48))
unfolding number_on
number_push a [] c m e d = let q : a ≡ m = cc in rw (d, q)
number_push a (x ∷ ds) c m e d = by (is_digit x) (number_push (a * 10 + (x - 48)) ds c m) e
  where
    by : (t : Bool) → (number_on (a * 10 + (x - 48)) ds ≡ Some m → Digit c → number_on (a * 10 + (x - 48)) (ds ++ (c ∷ [])) ≡ Some (m * 10 + (c - 48)))
        → cond t (number_on (a * 10 + (x - 48)) ds) None ≡ Some m → cond t (number_on (a * 10 + (x - 48)) (ds ++ (c ∷ []))) None ≡ Some (m * 10 + (c - 48))
    by true go e = go e d
    by false go e = absurd (let z : ◌≡◌ {A = ℕ} 0 1 = cc in omega arith)

one_digit : (n : ℕ) → n < 10 → number_on 0 ((48 + n) ∷ []) ≡ Some n
unfolding number_on
one_digit n h = let q : 0 * 10 + (48 + n - 48) ≡ n = omega arith in rw (digit_of n h, q)

figures : (n : ℕ) → n < 2 ^ 64 → Figures n (decimal n)
figures =
    decimal_by_steps Figures (λ n h. record { value = one_digit n h; digits = (digit_of n h, tt); some = omega arith }) (λ n ds h f.
    let q : n / 10 * 10 + (48 + n % 10 - 48) ≡ n = omega arith in
    let d = digit_of (n % 10) (omega arith) in
    record {
      value = number_push 0 ds (48 + n % 10) (n / 10) f.value d ∙ ap (λ m. Some m) q;
      digits = All-push Digit ds (48 + n % 10) f.digits d;
      some = rw (length-append ds ((48 + n % 10) ∷ [])) (omega arith);
    })

number_decimal : (n : ℕ) → n < 2 ^ 64 → number_in (decimal n) ≡ Some n
number_decimal n h = let f = figures n h in number_start (decimal n) (λ e. let s = f.some in omega arith) ∙ f.value

below_some : (limit n : ℕ) (o : Option ℕ) → o ≡ Some n → n < limit → below limit o ≡ Some n
below_some limit n o e h = rw (e, lt-ltb n limit h)

no_dash : (c : ℕ) → Digit c → (c == 45) ≡ false
no_dash c d = ne_eqb c 45 (λ e. let f = rw e at d in both_ways (is_digit 45) refl f)

to_dash_is : (ds rest : List ℕ) → AllByRecursion Digit ds → to_dash (ds ++ (45 ∷ rest)) ≡ ds
unfolding to_dash
to_dash_is [] rest a = refl
to_dash_is (d ∷ ds) rest a = rw (no_dash d a.0, to_dash_is ds rest a.1)

past_dash_is : (ds rest : List ℕ) → AllByRecursion Digit ds → past_dash (ds ++ (45 ∷ rest)) ≡ rest
unfolding past_dash
past_dash_is [] rest a = refl
past_dash_is (d ∷ ds) rest a = rw (no_dash d a.0, past_dash_is ds rest a.1)

pub lot_shown_back : (k : Lot) → lot_text (lot_shown k) ≡ Some k
unfolding lot_at
lot_shown_back k =
    let h = k.fits in
    let y = figures k.year (omega arith) in
    let p = figures k.press (omega arith) in
    let tail = decimal k.press ++ (45 ∷ decimal k.number) in
    let rest : past_dash (lot_shown k) ≡ tail = past_dash_is (decimal k.year) tail y.digits in
    let a : below (2 ^ 16) (number_in (to_dash (lot_shown k))) ≡ Some k.year =
    below_some (2 ^ 16) k.year _ (ap number_in (to_dash_is (decimal k.year) tail y.digits) ∙ number_decimal k.year (omega arith)) h.0 in
    let b : below (2 ^ 8) (number_in (to_dash (past_dash (lot_shown k)))) ≡ Some k.press =
    below_some (2 ^ 8) k.press _ (ap (λ xs. number_in (to_dash xs)) rest ∙ (ap number_in (to_dash_is (decimal k.press) (decimal k.number) p.digits) ∙ number_decimal k.press (omega arith))) h.1 in
    let c : below (2 ^ 32) (number_in (past_dash (past_dash (lot_shown k)))) ≡ Some k.number =
    below_some (2 ^ 32) k.number _ (ap (λ xs. number_in (past_dash xs)) rest ∙ (ap number_in (past_dash_is (decimal k.press) (decimal k.number) p.digits) ∙ number_decimal k.number (omega arith))) h.2 in
    join a b c ∙ ap {B = Option Lot} Some (same_lot (lot_at k.year k.press k.number) k (omega arith) (omega arith) (omega arith))
  where
    join : {o o' p p' q q' : Option ℕ} → o ≡ o' → p ≡ p' → q ≡ q' → lot_parts o p q ≡ lot_parts o' p' q'
    join u v w = λ i. lot_parts (u i) (v i) (w i)

first_digit : (ds : List ℕ) → AllByRecursion Digit ds → 0 < length ds → dashed ds ≡ false
first_digit [] a h = absurd (omega arith)
first_digit (d ∷ ds) a h = no_dash d a.0

pub moment_shown_back : (k : Moment) → moment_text (moment_shown k) ≡ Some k
moment_shown_back k = by k.seconds refl
  where
    by : (z : ℤ) → k.seconds ≡ z → moment_text (signed_decimal z) ≡ Some k
    by (pos n) e =
        let small : n < 2 ^ 63 = ltb-true n (2 ^ 63) (subst (λ (z : ℤ). nat_lt (mag z) (2 ^ 63) ≡ true) e k.fits) in
        let f = figures n (omega arith) in
        let d : dashed (decimal n) ≡ false = first_digit (decimal n) f.digits f.some in
        ap (λ t. moment_parts t (below (2 ^ 63 + 1) (number_in (cond t (drop 1 (decimal n)) (decimal n))))) d
        ∙ (ap (moment_parts false) (below_some (2 ^ 63 + 1) n (number_in (decimal n)) (number_decimal n (omega arith)) (omega arith)) ∙ moment_there k (pos n) e)
    by (negsuc n) e =
        let small : n < 2 ^ 63 = ltb-true n (2 ^ 63) (subst (λ (z : ℤ). nat_lt (mag z) (2 ^ 63) ≡ true) e k.fits) in
        ap (moment_parts true) (below_some (2 ^ 63 + 1) (suc n) (number_in (decimal (suc n))) (number_decimal (suc n) (omega arith)) (omega arith)) ∙ moment_there k (negsuc n) e
