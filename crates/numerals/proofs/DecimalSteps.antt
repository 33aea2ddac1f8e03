-- Going through decimal digits.
use Rattle.std.proofs.Common.{◌≡◌, ℕ, ◌+◌, ◌-◌, ◌*◌, ◌<◌, ◌≤◌, Bool, true, false, cond, List, [], ◌∷◌, length, get_or, drop, Some, None, refl, arith}
use Rattle.std.proofs.lemmas.List.{drop_more, drop_all}
use Rattle.std.proofs.lemmas.Bool.{le-ltb}
use Rattle.numerals.specs.Decimals.{is_digit, number_on, number_in, below}

pub number_empty : (cs : List ℕ) → length cs ≡ 0 → number_in cs ≡ None
unfolding number_in
number_empty [] e = refl
number_empty (c ∷ cs) e = absurd (omega arith)

pub number_start : (cs : List ℕ) → (length cs ≡ 0 → ⊥) → number_in cs ≡ number_on 0 (drop 0 cs)
unfolding number_in
number_start [] e = absurd (e refl)
number_start (c ∷ cs) e = refl

pub number_more : (n : ℕ) (cs : List ℕ) (i : ℕ) → i < length cs → is_digit (get_or cs i 0) ≡ true
    → number_on n (drop i cs) ≡ number_on (n * 10 + (get_or cs i 0 - 48)) (drop (i + 1) cs)
unfolding number_on
number_more n cs i h t = rw (drop_more cs i 0 h, t)

pub number_stop : (n : ℕ) (cs : List ℕ) (i : ℕ) → i < length cs → is_digit (get_or cs i 0) ≡ false → number_on n (drop i cs) ≡ None
unfolding number_on
number_stop n cs i h t = rw (drop_more cs i 0 h, t)

pub number_end : (n : ℕ) (cs : List ℕ) (i : ℕ) → length cs ≤ i → number_on n (drop i cs) ≡ Some n
unfolding number_on
number_end n cs i h = rw (drop_all i cs h)

-- digits that follow a number make no smaller one
pub too_large : (limit n : ℕ) (cs : List ℕ) → limit ≤ n → below limit (number_on n cs) ≡ None
unfolding number_on
too_large limit n [] h = rw (le-ltb n limit h)
too_large limit n (c ∷ cs) h = by (is_digit c) (too_large limit (n * 10 + (c - 48)) cs (omega arith))
  where
    by : (t : Bool) → below limit (number_on (n * 10 + (c - 48)) cs) ≡ None → below limit (cond t (number_on (n * 10 + (c - 48)) cs) None) ≡ None
    by true e = e
    by false e = refl
