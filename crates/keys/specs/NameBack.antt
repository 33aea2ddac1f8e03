-- What is shown of a name is read back as that name.
use Rattle.std.specs.Prelude.{◌≡◌, ℕ, zero, suc, ◌≤◌, Bool, true, false, cond, ◌&&◌, List, [], ◌∷◌, ◌++◌, length, drop, Some, None, Option, ◌==◌, ◌≢◌, nat_le, slice_index, refl}
use Rattle.std.proofs.Common.{sym, ap, subst, ◌∙◌, append-nil, ⊎_elim, arith}
use Rattle.std.proofs.lemmas.Bool.{and_from, and_parts, or_cases, or_right, le-leb, leb-true, ne_eqb, eqb-true, cases_eq}
use Rattle.std.proofs.lemmas.Str.{encode_ascii}
use Rattle.keys.specs.declared.name.Name.{Name}
use Rattle.keys.specs.Names.{name_bytes, first_eight, name_in}
use Rattle.numerals.specs.Hexadecimals.{hex_byte, in_front}
use Rattle.keys.specs.NameText.{first_byte, first_length, unescaped, spelled_by, name_text, shown_byte, name_shown}
use Rattle.keys.specs.Padding.{is_character, may_follow, goes_on, padded, all_characters}
use Rattle.keys.specs.Escapes.{empty}
use Rattle.keys.specs.NameLaws.{name_there}

-- the text of bytes one after another
abbrev shown : List ℕ → List ℕ
shown [] = []
shown (b ∷ bs) = shown_byte b ++ shown bs

-- the bytes before the first zero
abbrev front : List ℕ → List ℕ
front [] = []
front (b ∷ bs) = cond (b == 0) [] (b ∷ front bs)

-- what holds of padded bytes and those before their padding
record Fronted (bs : List ℕ) : Type 0 where
  same_text : shown bs ≡ shown (front bs)
  plain : all_characters (front bs) ≡ true
  same_at : (i : ℕ) → slice_index (front bs) i ≡ slice_index bs i
  shorter : length (front bs) ≤ length bs

-- after a zero there are only zeros
zero_after : (b : ℕ) → may_follow 0 b ≡ true → b ≡ 0
zero_after b e = ⊎_elim (eqb-true b 0) (λ p. absurd (let z : ◌≡◌ {A = ℕ} 0 1 = cc in omega arith)) (or_cases (b == 0) false e)

zeros_shown : (bs : List ℕ) → goes_on 0 bs ≡ true → shown bs ≡ []
unfolding shown_byte
zeros_shown [] e = refl
zeros_shown (b ∷ bs) e =
    let p = and_parts (may_follow 0 b) (goes_on b bs) e in
    let z = zero_after b p.0 in
    ap (λ c. shown_byte c ++ shown bs) z ∙ zeros_shown bs (rw z at p.1)

zeros_at : (bs : List ℕ) → goes_on 0 bs ≡ true → (i : ℕ) → slice_index bs i ≡ 0
zeros_at [] e i = refl
zeros_at (b ∷ bs) e zero = zero_after b (and_parts (may_follow 0 b) (goes_on b bs) e).0
zeros_at (b ∷ bs) e (suc i) =
    let p = and_parts (may_follow 0 b) (goes_on b bs) e in
    zeros_at bs (rw (zero_after b p.0) at p.1) i

not_zero : (b : ℕ) → is_character b ≡ true → b ≢ 0
not_zero b e z = let h = leb-true 32 b (and_parts (nat_le 32 b) (nat_le b 126) e).0 in omega arith

fronted : (b : ℕ) (bs : List ℕ) → goes_on b bs ≡ true → Fronted bs
unfolding shown_byte all_characters
fronted b [] e = record { same_text = refl; plain = refl; same_at = λ i. refl; shorter = omega arith }
fronted b (c ∷ bs) e =
    let p = and_parts (may_follow b c) (goes_on c bs) e in
    ⊎_elim (λ z. stop (eqb-true c 0 z) p.1) (λ q. go (and_parts (is_character b) (is_character c) q).1 (fronted c bs p.1))
    (or_cases (c == 0) (is_character b && is_character c) p.0)
  where
    at_stop : c ≡ 0 → goes_on 0 bs ≡ true → (i : ℕ) → slice_index (c ∷ bs) i ≡ 0
    at_stop z w zero = z
    at_stop z w (suc i) = zeros_at bs w i

    stop : c ≡ 0 → goes_on c bs ≡ true → Fronted (c ∷ bs)
    stop z g =
        let o : front (c ∷ bs) ≡ [] = rw z in
        let w : goes_on 0 bs ≡ true = subst (λ (x : ℕ). goes_on x bs ≡ true) z g in
        record {
          same_text = ap (λ (x : ℕ). shown_byte x ++ shown bs) z ∙ (zeros_shown bs w ∙ ap shown (sym o));
          plain = ap all_characters o;
          same_at = λ i. ap (λ (xs : List ℕ). slice_index xs i) o ∙ sym (at_stop z w i);
          shorter = rw o (omega arith);
        }

    at_go : Fronted bs → (i : ℕ) → slice_index (c ∷ front bs) i ≡ slice_index (c ∷ bs) i
    at_go f zero = refl
    at_go f (suc i) = f.same_at i

    go : is_character c ≡ true → Fronted bs → Fronted (c ∷ bs)
    go t f =
        let o : front (c ∷ bs) ≡ c ∷ front bs = rw (ne_eqb c 0 (not_zero c t)) in
        record {
          same_text = ap (λ (xs : List ℕ). shown_byte c ++ xs) f.same_text ∙ ap shown (sym o);
          plain = ap all_characters o ∙ and_from (is_character c) (all_characters (front bs)) t f.plain;
          same_at = λ i. ap (λ (xs : List ℕ). slice_index xs i) o ∙ at_go f i;
          shorter = rw o (let s = f.shorter in omega arith);
        }

padded_front : (bs : List ℕ) → padded bs ≡ true → Fronted bs
unfolding padded
padded_front [] e = absurd (let z : ◌≡◌ {A = ℕ} 0 1 = cc in omega arith)
padded_front (b ∷ bs) e = let p = and_parts (is_character b) (goes_on b bs) e in fronted b (b ∷ bs) (and_from (may_follow b b) (goes_on b bs) (itself b p.0) p.1)
  where
    itself : (b : ℕ) → is_character b ≡ true → may_follow b b ≡ true
    itself b t = or_right (b == 0) (is_character b && is_character b) (and_from (is_character b) (is_character b) t t)

-- one byte as it is shown, and what follows it
record Begun (c : ℕ) (rest : List ℕ) : Type 0 where
  there : length (shown_byte c ++ rest) ≡ 0 → ⊥
  byte : first_byte (shown_byte c ++ rest) ≡ Some c
  left : drop (first_length (shown_byte c ++ rest)) (shown_byte c ++ rest) ≡ rest

begun_space : (rest : List ℕ) → Begun 32 rest
unfolding shown_byte hex_byte
begun_space rest = record { there = λ e. omega arith; byte = refl; left = refl }

begun_sign : (rest : List ℕ) → Begun 37 rest
unfolding shown_byte hex_byte
begun_sign rest = record { there = λ e. omega arith; byte = refl; left = refl }

begun_plain : (c : ℕ) (rest : List ℕ) → shown_byte c ≡ c ∷ [] → (c ≢ 32) → (c ≢ 37) → Begun c rest
begun_plain c rest s p q =
    let o : shown_byte c ++ rest ≡ c ∷ rest = ap (λ (xs : List ℕ). xs ++ rest) s in
    record {
      there = λ e. let l = ap length o in omega arith;
      byte = ap first_byte o ∙ rw (ne_eqb c 37 q, ne_eqb c 32 p);
      left = ap (λ (xs : List ℕ). drop (first_length xs) xs) o ∙ rw (ne_eqb c 37 q);
    }

plain_text : (c : ℕ) → is_character c ≡ true → (c ≢ 32) → (c ≢ 37) → shown_byte c ≡ c ∷ []
unfolding shown_byte
plain_text c t p q =
    let h = leb-true c 126 (and_parts (nat_le 32 c) (nat_le c 126) t).1 in
    rw (ne_eqb c 0 (not_zero c t), ne_eqb c 32 p, ne_eqb c 37 q) (encode_ascii c (omega arith))

begun : (c : ℕ) (rest : List ℕ) → is_character c ≡ true → Begun c rest
begun c rest t =
    ⊎_elim (λ e. subst (λ (x : ℕ). Begun x rest) (sym e) (begun_space rest))
    (λ p. ⊎_elim (λ e. subst (λ (x : ℕ). Begun x rest) (sym e) (begun_sign rest)) (λ q. begun_plain c rest (plain_text c t p q) p q) (cases_eq c 37)) (cases_eq c 32)

unescaped_shown : (k : ℕ) (cs : List ℕ) → all_characters cs ≡ true → length cs ≤ k → unescaped k (shown cs) ≡ Some cs
unfolding unescaped all_characters
unescaped_shown k [] a l = empty k
unescaped_shown zero (c ∷ cs) a l = absurd (omega arith)
unescaped_shown (suc k) (c ∷ cs) a l =
    let p = and_parts (is_character c) (all_characters cs) a in
    let b = begun c (shown cs) p.0 in
    let text = shown_byte c ++ shown cs in
    ap (λ (t : Bool). cond t (Some []) (in_front (first_byte text) (unescaped k (drop (first_length text) text)))) (ne_eqb (length text) 0 b.there)
    ∙ joined b.byte (ap (unescaped k) b.left ∙ unescaped_shown k cs p.1 (omega arith))
  where
    joined : {o o' : Option ℕ} {q q' : Option (List ℕ)} → o ≡ o' → q ≡ q' → in_front o q ≡ in_front o' q'
    joined u v = λ i. in_front (u i) (v i)

pub name_shown_back : (k : Name) → name_text (name_shown k) ≡ Some k
name_shown_back k =
    let bs = name_bytes k in
    let f = padded_front bs k.rule in
    let s = f.shorter in
    let whole : name_shown k ≡ shown bs =
    ap (λ (xs : List ℕ). shown_byte k.first ++ (shown_byte k.second ++ (shown_byte k.third ++ (shown_byte k.fourth ++ (shown_byte k.fifth ++ (shown_byte k.sixth ++ (shown_byte k.seventh ++ xs)))))))
    (sym (append-nil (shown_byte k.eighth))) in
    let read : unescaped 8 (name_shown k) ≡ Some (front bs) = ap (unescaped 8) (whole ∙ f.same_text) ∙ unescaped_shown 8 (front bs) f.plain (omega arith) in
    let eight : first_eight (front bs) ≡ bs = at_eight f.same_at in
    ap spelled_by read
    ∙ (ap (λ (t : Bool). cond t (name_in (first_eight (front bs))) None) (and_from (nat_le (length (front bs)) 8) (all_characters (front bs)) (le-leb (length (front bs)) 8 (omega arith)) f.plain)
    ∙ (ap name_in eight ∙ name_there bs k refl))
  where
    at_eight : ((i : ℕ) → slice_index (front (name_bytes k)) i ≡ slice_index (name_bytes k) i) → first_eight (front (name_bytes k)) ≡ name_bytes k
    at_eight e = λ i. e 0 i ∷ e 1 i ∷ e 2 i ∷ e 3 i ∷ e 4 i ∷ e 5 i ∷ e 6 i ∷ e 7 i ∷ []
