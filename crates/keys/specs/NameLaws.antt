-- The laws of names.
use Rattle.std.specs.Prelude.{◌≡◌, ℕ, ◌+◌, ◌<◌, ◌≤◌, Bool, true, false, cond, ◌&&◌, List, [], ◌∷◌, ◌++◌, length, drop, Some, None, Option, ◌==◌, nat_le, slice_index, refl}
use Rattle.std.proofs.Common.{sym, ap, subst, ◌∙◌, ⊎_elim, arith}
use mathlib.Core.HLevel.{is_prop→PathP}
use Rattle.std.proofs.Math.Bool.{Bool-set}
use Rattle.std.specs.Int.Digits.{AllBelowBase}
use Rattle.std.proofs.lemmas.List.{drop_more, drop_all}
use Rattle.std.proofs.lemmas.Bool.{cases_order, and_parts, or_cases, leb-true, eqb-true}
use Rattle.std.proofs.lemmas.Bool.Decides.{nat_tests}
use Rattle.keys.specs.declared.name.Name.{Name}
use Rattle.keys.specs.Bytes.{are_bytes}
use Rattle.keys.specs.Kind.{Lawful, Only, order}
use Rattle.std.specs.Ordering.{nat_cmp, ordering_then}
use Rattle.keys.specs.Kind.Only.{lower, higher, same}
use Rattle.keys.specs.Names.{name_bytes, earlier, name_less, first_eight, name_in, name_kind}
use Rattle.keys.specs.Padding.{is_character, may_follow, goes_on, padded, all_characters}
use Rattle.keys.specs.Digits.{written_bytes, bytes_parts, eight_is}
use Rattle.keys.specs.Order.{by_less, by_same, then_standing, last_standing}
use Rattle.keys.specs.WhenLemmas.{when_some, when_none, when_is}

pub same_name : (a b : Name) → name_bytes a ≡ name_bytes b → a ≡ b
same_name a b e = λ i.
    record {
      first = slice_index (e i) 0;
      second = slice_index (e i) 1;
      third = slice_index (e i) 2;
      fourth = slice_index (e i) 3;
      fifth = slice_index (e i) 4;
      sixth = slice_index (e i) 5;
      seventh = slice_index (e i) 6;
      eighth = slice_index (e i) 7;
      rule = is_prop→PathP (λ j. padded (first_eight (e j)) ≡ true) (λ j. Bool-set (padded (first_eight (e j))) true) a.rule b.rule i;
    }

-- of two lists of one length just one is earlier, or they are the same
list_only : (bs cs : List ℕ) → length bs ≡ length cs → Only earlier bs cs
list_only [] [] l = same refl refl refl
list_only [] (c ∷ cs) l = absurd (omega arith)
list_only (b ∷ bs) [] l = absurd (omega arith)
list_only (b ∷ bs) (c ∷ cs) l =
    ⊎_elim (λ e. equal e (list_only bs cs (omega arith))) (⊎_elim low high) (cases_order b c)
  where
    low : b < c → Only earlier (b ∷ bs) (c ∷ cs)
    low h = let p = by_less b c (earlier bs cs) (earlier cs bs) h in lower p.0 p.1 (λ e. let q = ap (λ xs. slice_index xs 0) e in omega arith)

    high : c < b → Only earlier (b ∷ bs) (c ∷ cs)
    high h = let p = by_less c b (earlier cs bs) (earlier bs cs) h in higher p.0 p.1 (λ e. let q = ap (λ xs. slice_index xs 0) e in omega arith)

    equal : b ≡ c → Only earlier bs cs → Only earlier (b ∷ bs) (c ∷ cs)
    equal e (lower p q r) = lower (by_same b c (earlier bs cs) e ∙ p) (by_same c b (earlier cs bs) (sym e) ∙ q) (λ f. r (ap (drop 1) f))
    equal e (higher p q r) = higher (by_same c b (earlier cs bs) (sym e) ∙ p) (by_same b c (earlier bs cs) e ∙ q) (λ f. r (ap (drop 1) f))
    equal e (same p q r) = same (cc) (by_same b c (earlier bs cs) e ∙ q) (by_same c b (earlier cs bs) (sym e) ∙ r)

pub name_only : (a b : Name) → Only name_less a b
name_only a b =
    elim (list_only (name_bytes a) (name_bytes b) refl) [
      | lower p q r ↦ lower p q (λ e. r (ap name_bytes e))
      | higher p q r ↦ higher p q (λ e. r (ap name_bytes e))
      | same p q r ↦ same (same_name a b p) q r
    ]

earlier_transitive : (bs cs ds : List ℕ) → earlier bs cs ≡ true → earlier cs ds ≡ true → earlier bs ds ≡ true
earlier_transitive [] cs ds h k = absurd (grind arith)
earlier_transitive (b ∷ bs) [] ds h k = absurd (grind arith)
earlier_transitive (b ∷ bs) (c ∷ cs) [] h k = absurd (grind arith)
earlier_transitive (b ∷ bs) (c ∷ cs) (d ∷ ds) h k = let ih = earlier_transitive bs cs ds in grind (arith, nat_tests)

-- padded bytes are bytes
character_small : (b : ℕ) → is_character b ≡ true → b < 256
character_small b e = let p = and_parts (nat_le 0x20 b) (nat_le b 0x7e) e in let h = leb-true b 0x7e p.1 in omega arith

follow_small : (b c : ℕ) → may_follow b c ≡ true → c < 256
follow_small b c e =
    ⊎_elim (λ z. let h = eqb-true c 0 z in omega arith) (λ p. character_small c (and_parts (is_character b) (is_character c) p).1)
    (or_cases (c == 0) (is_character b && is_character c) e)

under_on : (b : ℕ) (bs : List ℕ) → goes_on b bs ≡ true → AllBelowBase 256 bs
under_on b [] e = tt
under_on b (c ∷ cs) e = let p = and_parts (may_follow b c) (goes_on c cs) e in (follow_small b c p.0, under_on c cs p.1)

under_padded : (bs : List ℕ) → padded bs ≡ true → AllBelowBase 256 bs
unfolding padded
under_padded [] e = tt
under_padded (b ∷ bs) e = let p = and_parts (is_character b) (goes_on b bs) e in (character_small b p.0, under_on b bs p.1)

pub name_there : (bs : List ℕ) (a : Name) → name_bytes a ≡ first_eight bs → name_in bs ≡ Some a
unfolding name_in
name_there bs a e =
    let p : padded (first_eight bs) ≡ true = subst (λ xs. padded xs ≡ true) e a.rule in
    when_some (padded (first_eight bs)) _ p ∙ ap {B = Option Name} Some (same_name _ a (sym e))

pub no_name : (bs : List ℕ) → padded (first_eight bs) ≡ false → name_in bs ≡ None
unfolding name_in
no_name bs e = when_none (padded (first_eight bs)) _ e

read_bytes : (bs : List ℕ) (a : Name) → name_in bs ≡ Some a → name_bytes a ≡ first_eight bs
unfolding name_in
read_bytes bs a e = let p = when_is (padded (first_eight bs)) _ a e in sym (ap name_bytes p.1)

if_read : {X : Type 0} (t : Bool) (o : Option X) (x : X) → cond t o None ≡ Some x → (t ≡ true) × (o ≡ Some x)
if_read true o x e = (refl, e)
if_read false o x e = absurd (let z : ◌≡◌ {A = ℕ} 0 1 = cc in omega arith)

pub name_lawful : Lawful name_kind
name_lawful =
    record {
      width_least = omega arith;
      width_most = omega arith;
      code_least = omega arith;
      code_most = omega arith;
      just_one = name_only;
      transitive = λ a b c. earlier_transitive (name_bytes a) (name_bytes b) (name_bytes c);
      as_wide = λ a. refl;
      in_bytes = λ a. under_padded (name_bytes a) a.rule;
      reads_back = λ a.
          ap (λ t. cond t (name_in (name_bytes a)) None) (written_bytes 8 (name_bytes a) refl (under_padded (name_bytes a) a.rule))
          ∙ name_there (name_bytes a) a refl;
      reads_only = λ bs a e.
          let r = if_read (are_bytes 8 bs) (name_in bs) a e in
          let p = bytes_parts 8 bs r.0 in read_bytes bs a r.1 ∙ eight_is bs p.0;
    }

pub name_ordered : (a b : Name)
    → ordering_then (nat_cmp a.first b.first) (ordering_then (nat_cmp a.second b.second) (ordering_then (nat_cmp a.third b.third) (ordering_then (nat_cmp a.fourth b.fourth)
    (ordering_then (nat_cmp a.fifth b.fifth) (ordering_then (nat_cmp a.sixth b.sixth) (ordering_then (nat_cmp a.seventh b.seventh) (nat_cmp a.eighth b.eighth))))))) ≡ order name_kind a b
name_ordered a b =
    then_standing a.first b.first _ _ _ (then_standing a.second b.second _ _ _ (then_standing a.third b.third _ _ _ (then_standing a.fourth b.fourth _ _ _
    (then_standing a.fifth b.fifth _ _ _ (then_standing a.sixth b.sixth _ _ _ (then_standing a.seventh b.seventh _ _ _ (last_standing a.eighth b.eighth)))))))

-- a loop over characters: one more, and all
pub characters_more : (bs : List ℕ) (i : ℕ) → i < length bs → all_characters (drop i bs) ≡ (is_character (slice_index bs i) && all_characters (drop (i + 1) bs))
unfolding all_characters
characters_more bs i h = rw (drop_more bs i 0 h)

pub characters_all : (bs : List ℕ) (i : ℕ) → length bs ≤ i → all_characters (drop i bs) ≡ true
unfolding all_characters
characters_all bs i h = rw (drop_all i bs h)

-- text of at most eight bytes, over eight zeros
pub eight_of : (bs : List ℕ) → length bs ≤ 8 → bs ++ drop (length bs) (0 ∷ 0 ∷ 0 ∷ 0 ∷ 0 ∷ 0 ∷ 0 ∷ 0 ∷ []) ≡ first_eight bs
eight_of [] l = refl
eight_of (a ∷ []) l = refl
eight_of (a ∷ b ∷ []) l = refl
eight_of (a ∷ b ∷ c ∷ []) l = refl
eight_of (a ∷ b ∷ c ∷ d ∷ []) l = refl
eight_of (a ∷ b ∷ c ∷ d ∷ e ∷ []) l = refl
eight_of (a ∷ b ∷ c ∷ d ∷ e ∷ f ∷ []) l = refl
eight_of (a ∷ b ∷ c ∷ d ∷ e ∷ f ∷ g ∷ []) l = refl
eight_of (a ∷ b ∷ c ∷ d ∷ e ∷ f ∷ g ∷ h ∷ []) l = refl
eight_of (a ∷ b ∷ c ∷ d ∷ e ∷ f ∷ g ∷ h ∷ i ∷ bs) l = absurd (omega arith)
