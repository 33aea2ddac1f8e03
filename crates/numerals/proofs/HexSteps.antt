-- Going through hexadecimal digits two by two.
use Rattle.std.proofs.Common.{◌≡◌, ℕ, zero, suc, ◌+◌, ◌*◌, ◌/◌, ◌%◌, ◌<◌, ◌≤◌, List, [], ◌∷◌, ◌++◌, length, get_or, take, drop, Some, None, Option, sym, refl, ap, ◌∙◌, append_assoc, append-nil, arith}
use Rattle.std.specs.Simd.{first_chunks}
use Rattle.std.proofs.lemmas.List.{drop_more, drop_all, take_more, drop-drop, get_or-take, get_or-drop}
use Rattle.numerals.specs.Hexadecimals.{hex_byte, hex_bytes, hex_digit, hex_text, in_front}

-- bytes before those in o
abbrev pub after : List ℕ → Option (List ℕ) → Option (List ℕ)
after xs None = None
after xs (Some ys) = Some (xs ++ ys)

-- an odd number of digits
pub odd_digits : (cs : List ℕ) → (length cs % 2 ≡ 0 → ⊥) → hex_bytes cs ≡ None
unfolding hex_bytes
odd_digits [] h = absurd (h refl)
odd_digits (c ∷ []) h = refl
odd_digits (c ∷ d ∷ cs) h = rw (odd_digits cs (λ e. h (omega arith))) (none (hex_byte c d))
  where
    none : (o : Option ℕ) → in_front o None ≡ None
    none None = refl
    none (Some b) = refl

-- the bytes of pair i
pair_at : (k i : ℕ) (cs : List ℕ) → i < k → get_or (first_chunks 2 k cs) i [] ≡ take 2 (drop (2 * i) cs)
pair_at zero i cs h = absurd (omega arith)
pair_at (suc k) zero cs h = refl
pair_at (suc k) (suc i) cs h =
    let e : 2 + 2 * i ≡ 2 * suc i = omega arith in pair_at k i (drop 2 cs) (omega arith) ∙ ap (take 2) (drop-drop (2 * i) 2 cs ∙ ap (λ (n : ℕ). drop n cs) e)

pair_byte : (k i j : ℕ) (cs : List ℕ) → i < k → j < 2 → get_or (get_or (first_chunks 2 k cs) i []) j 0 ≡ get_or cs (2 * i + j) 0
pair_byte k i j cs h l =
    ap (λ (p : List ℕ). get_or p j 0) (pair_at k i cs h) ∙ (get_or-take 2 (drop (2 * i) cs) j 0 l ∙ get_or-drop (2 * i) cs j 0)

pub pair_is : (ps : List (List ℕ)) (cs : List ℕ) (i : ℕ) → ps ≡ first_chunks 2 (length cs / 2) cs → i < length cs / 2
    → hex_byte (get_or (get_or ps i []) 0 0) (get_or (get_or ps i []) 1 0) ≡ hex_byte (get_or cs (2 * i) 0) (get_or cs (2 * i + 1) 0)
pair_is ps cs i e h =
    let z : 2 * i + 0 ≡ 2 * i = omega arith in
    rw (e, pair_byte (length cs / 2) i 0 cs h (omega arith), pair_byte (length cs / 2) i 1 cs h (omega arith), z)

two_more : (cs : List ℕ) (i : ℕ) → 2 * i + 1 < length cs → hex_bytes (drop (2 * i) cs) ≡ in_front (hex_byte (get_or cs (2 * i) 0) (get_or cs (2 * i + 1) 0)) (hex_bytes (drop (2 * (i + 1)) cs))
unfolding hex_bytes
two_more cs i h =
    let e : 2 * i + 1 + 1 ≡ 2 * (i + 1) = omega arith in
    rw (drop_more cs (2 * i) 0 (omega arith), drop_more cs (2 * i + 1) 0 h, e)

no_more : (cs : List ℕ) (i : ℕ) → length cs ≤ 2 * i → hex_bytes (drop (2 * i) cs) ≡ Some []
unfolding hex_bytes
no_more cs i h = rw (drop_all (2 * i) cs h)

pub nothing_before : (o : Option (List ℕ)) → o ≡ after [] o
nothing_before None = refl
nothing_before (Some ys) = refl

after_one : (xs : List ℕ) (b : ℕ) (o : Option (List ℕ)) → after xs (in_front (Some b) o) ≡ after (xs ++ (b ∷ [])) o
after_one xs b None = refl
after_one xs b (Some ys) = ap {B = Option (List ℕ)} Some (sym (append_assoc xs (b ∷ []) ys))

-- the digits of byte i are read and give one more, or give none, or there are no more
pub one_more : (cs xs : List ℕ) (i b : ℕ) → 2 * i + 1 < length cs → hex_bytes cs ≡ after xs (hex_bytes (drop (2 * i) cs))
    → Some b ≡ hex_byte (get_or cs (2 * i) 0) (get_or cs (2 * i + 1) 0)
    → hex_bytes cs ≡ after (xs ++ (b ∷ [])) (hex_bytes (drop (2 * (i + 1)) cs))
one_more cs xs i b h inv e =
    inv ∙ (ap (after xs) (two_more cs i h ∙ ap (λ (o : Option ℕ). in_front o (hex_bytes (drop (2 * (i + 1)) cs))) (sym e)) ∙ after_one xs b (hex_bytes (drop (2 * (i + 1)) cs)))

pub none_here : (cs xs : List ℕ) (i : ℕ) → 2 * i + 1 < length cs → hex_bytes cs ≡ after xs (hex_bytes (drop (2 * i) cs))
    → None ≡ hex_byte (get_or cs (2 * i) 0) (get_or cs (2 * i + 1) 0) → None ≡ hex_bytes cs
none_here cs xs i h inv e =
    sym (inv ∙ ap (after xs) (two_more cs i h ∙ ap (λ (o : Option ℕ). in_front o (hex_bytes (drop (2 * (i + 1)) cs))) (sym e)))

pub all_read : (cs xs : List ℕ) (i : ℕ) → length cs ≤ 2 * i → hex_bytes cs ≡ after xs (hex_bytes (drop (2 * i) cs)) → Some xs ≡ hex_bytes cs
all_read cs xs i h inv = sym (inv ∙ (ap (after xs) (no_more cs i h) ∙ ap {B = Option (List ℕ)} Some (append-nil xs)))

hex_text_append : (xs ys : List ℕ) → hex_text (xs ++ ys) ≡ hex_text xs ++ hex_text ys
unfolding hex_text
hex_text_append [] ys = refl
hex_text_append (x ∷ xs) ys = ap (λ (w : List ℕ). hex_digit (x / 16) ∷ hex_digit (x % 16) ∷ w) (hex_text_append xs ys)

-- the digits of one byte more
pub text_more : (xs : List ℕ) (i : ℕ) → i < length xs
    → hex_text (take (i + 1) xs) ≡ hex_text (take i xs) ++ (hex_digit (get_or xs i 0 / 16) ∷ hex_digit (get_or xs i 0 % 16) ∷ [])
unfolding hex_text
text_more xs i h = ap hex_text (take_more xs i 0 h) ∙ hex_text_append (take i xs) (get_or xs i 0 ∷ [])

pub no_text : hex_text [] ≡ []
unfolding hex_text
no_text = refl

-- two characters that take one byte each
pub ascii_two : (xs : List ℕ) (h l : ℕ) (hs ls : List ℕ) → hs ≡ h ∷ [] → ls ≡ l ∷ [] → (xs ++ hs) ++ ls ≡ xs ++ (h ∷ l ∷ [])
ascii_two xs h l hs ls p q = rw (p, q) (append_assoc xs (h ∷ []) (l ∷ []))
