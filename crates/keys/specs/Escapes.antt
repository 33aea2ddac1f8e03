-- Going through text with escapes.
use Rattle.std.specs.Prelude.{◌≡◌, ℕ, zero, suc, ◌<◌, List, [], ◌∷◌, ◌++◌, length, drop, Some, None, Option, refl}
use Rattle.std.proofs.Common.{sym, ap, ◌∙◌, append_assoc, append-nil, arith}
use Rattle.std.proofs.lemmas.Bool.{ne_eqb}
use Rattle.numerals.specs.Hexadecimals.{in_front}
use Rattle.keys.specs.NameText.{first_byte, first_length, unescaped}

-- the bytes so far, and those in o
abbrev pub after : List ℕ → Option (List ℕ) → Option (List ℕ)
after xs None = None
after xs (Some ys) = Some (xs ++ ys)

pub start : (o : Option (List ℕ)) → o ≡ after [] o
start None = refl
start (Some ys) = refl

in_front_after : (xs : List ℕ) (b : ℕ) (o : Option (List ℕ)) → after xs (in_front (Some b) o) ≡ after (xs ++ (b ∷ [])) o
in_front_after xs b None = refl
in_front_after xs b (Some ys) = ap (λ zs. Some zs) (sym (append_assoc xs (b ∷ []) ys))

more : (k : ℕ) (cs : List ℕ) → 0 < length cs → unescaped (suc k) cs ≡ in_front (first_byte cs) (unescaped k (drop (first_length cs) cs))
unfolding unescaped
more k cs h = rw (ne_eqb (length cs) 0 (λ e. omega arith))

nothing_fits : (cs : List ℕ) → 0 < length cs → unescaped zero cs ≡ None
unfolding unescaped
nothing_fits cs h = rw (ne_eqb (length cs) 0 (λ e. omega arith))

-- a byte more
pub one_more : (j k : ℕ) (xs cs rest : List ℕ) (b : ℕ) → j ≡ suc k → 0 < length cs → first_byte cs ≡ Some b → rest ≡ drop (first_length cs) cs
    → after xs (unescaped j cs) ≡ after (xs ++ (b ∷ [])) (unescaped k rest)
one_more j k xs cs rest b q h e d =
    ap (λ (i : ℕ). after xs (unescaped i cs)) q
    ∙ (ap (after xs) (more k cs h)
    ∙ (ap (λ o. after xs (in_front o (unescaped k (drop (first_length cs) cs)))) e
    ∙ (in_front_after xs b (unescaped k (drop (first_length cs) cs)) ∙ ap (λ ys. after (xs ++ (b ∷ [])) (unescaped k ys)) (sym d))))

-- a byte that cannot be read
pub no_more : (k : ℕ) (xs cs : List ℕ) → 0 < length cs → first_byte cs ≡ None → after xs (unescaped k cs) ≡ None
no_more zero xs cs h e = ap (after xs) (nothing_fits cs h)
no_more (suc k) xs cs h e = ap (after xs) (more k cs h) ∙ ap (λ o. after xs (in_front o (unescaped k (drop (first_length cs) cs)))) e

-- as many bytes as there may be, and text left
pub too_many : (k : ℕ) (xs cs : List ℕ) → 0 < length cs → k ≡ 0 → after xs (unescaped k cs) ≡ None
too_many k xs cs h q = ap (λ (i : ℕ). after xs (unescaped i cs)) q ∙ ap (after xs) (nothing_fits cs h)

pub empty : (k : ℕ) → unescaped k [] ≡ Some []
unfolding unescaped
empty zero = refl
empty (suc k) = refl

-- no text left
pub done : (k : ℕ) (xs cs : List ℕ) → length cs ≡ 0 → after xs (unescaped k cs) ≡ Some xs
done k xs [] h = ap (after xs) (empty k) ∙ ap {B = Option (List ℕ)} Some (append-nil xs)
done k xs (c ∷ cs) h = absurd (omega arith)
