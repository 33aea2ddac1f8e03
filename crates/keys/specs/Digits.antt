-- Bytes and the numbers that they are: each gives the other back, however many bytes there are.
use Rattle.std.specs.Prelude.{◌≡◌, ℕ, zero, suc, ◌+◌, ◌*◌, ◌/◌, ◌%◌, ◌^◌, ◌<◌, Bool, true, false, cond, List, [], ◌∷◌, ◌++◌, length, Some, None, ◌==◌, ◌≢◌, nat_lt, slice_index, refl}
use Rattle.std.proofs.Common.{sym, ap, subst, ◌∙◌, arith, pow-suc, length-append}
use Rattle.std.specs.Int.Digits.{AllBelowBase}
use Rattle.std.proofs.lemmas.Nat.{div_below}
use Rattle.std.proofs.lemmas.Int.Digits.{number_push}
use Rattle.std.proofs.ByRecursion.{All-push}
use Rattle.std.proofs.lemmas.Bool.{and_from, and_left, and_parts, eqb-true, eq-eqb, ne_eqb, ltb-true, lt-ltb}
use Rattle.keys.specs.Bytes.{all_bytes, are_bytes, big_endian, from_bytes}

pub length_big : (k n : ℕ) → length (big_endian k n) ≡ k
length_big zero n = refl
length_big (suc k) n = length-append (big_endian k (n / 256)) (n % 256 ∷ []) ∙ let e = length_big k (n / 256) in omega arith

pub under_big : (k n : ℕ) → AllBelowBase 256 (big_endian k n)
under_big zero n = tt
under_big (suc k) n = All-push (λ d. d < 256) (big_endian k (n / 256)) (n % 256) (under_big k (n / 256)) (omega arith)

pub all_from_under : (bs : List ℕ) → AllBelowBase 256 bs → all_bytes bs ≡ true
unfolding all_bytes
all_from_under [] u = refl
all_from_under (b ∷ bs) u = and_from (nat_lt b 256) (all_bytes bs) (lt-ltb b 256 u.0) (all_from_under bs u.1)

pub under_from_all : (bs : List ℕ) → all_bytes bs ≡ true → AllBelowBase 256 bs
unfolding all_bytes
under_from_all [] e = tt
under_from_all (b ∷ bs) e = let p = and_parts (nat_lt b 256) (all_bytes bs) e in (ltb-true b 256 p.0, under_from_all bs p.1)

pub from_big : (k n : ℕ) → n < 256 ^ k → from_bytes (big_endian k n) ≡ n
from_big zero n h = omega arith
from_big (suc k) n h =
    let l : n < 256 ^ k * 256 = rw pow-suc at h in
    let q = div_below n 256 (256 ^ k) (omega arith) l in
    number_push 256 (big_endian k (n / 256)) (n % 256) ∙ rw (from_big k (n / 256) q) (omega arith)

-- the last of some bytes, and those before it
parted : (b : ℕ) (bs : List ℕ) → (cs : List ℕ) × (c : ℕ) × (b ∷ bs ≡ cs ++ (c ∷ []))
parted b [] = ([], b, refl)
parted b (c ∷ bs) = let p = parted c bs in (b ∷ p.0, p.1, ap (λ xs. b ∷ xs) p.2)

under_cut : (cs : List ℕ) (c : ℕ) → AllBelowBase 256 (cs ++ (c ∷ [])) → AllBelowBase 256 cs × (c < 256)
under_cut [] c u = (tt, u.0)
under_cut (b ∷ cs) c u = let r = under_cut cs c u.1 in ((u.0, r.0), r.1)

pub big_from : (k : ℕ) (bs : List ℕ) → length bs ≡ k → AllBelowBase 256 bs → big_endian k (from_bytes bs) ≡ bs
big_from zero [] l u = refl
big_from zero (b ∷ bs) l u = absurd (omega arith)
big_from (suc k) [] l u = absurd (omega arith)
big_from (suc k) (b ∷ bs) l u =
    let p = parted b bs in
    let cs = p.0 in
    let c = p.1 in
    let v = under_cut cs c (subst (AllBelowBase 256) p.2 u) in
    let m : length cs ≡ k = let e = ap length p.2 in let f = length-append cs (c ∷ []) in omega arith in
    let n : from_bytes (b ∷ bs) ≡ from_bytes cs * 256 + c = ap from_bytes p.2 ∙ number_push 256 cs c in
    let small = v.1 in
    let q : (from_bytes cs * 256 + c) / 256 ≡ from_bytes cs = omega arith in
    let r : (from_bytes cs * 256 + c) % 256 ≡ c = omega arith in
    ap (big_endian (suc k)) n ∙ (rw (q, r, big_from k cs m v.0) (sym p.2))

-- a test of bytes that are written
pub written_bytes : (k : ℕ) (bs : List ℕ) → length bs ≡ k → AllBelowBase 256 bs → are_bytes k bs ≡ true
written_bytes k bs l u = and_from (length bs == k) (all_bytes bs) (eq-eqb (length bs) k l) (all_from_under bs u)

pub bytes_parts : (k : ℕ) (bs : List ℕ) → are_bytes k bs ≡ true → (length bs ≡ k) × AllBelowBase 256 bs
bytes_parts k bs e = let p = and_parts (length bs == k) (all_bytes bs) e in (eqb-true (length bs) k p.0, under_from_all bs p.1)

pub if_some : {K : Type 0} (t : Bool) (k a : K) → cond t (Some k) None ≡ Some a → (t ≡ true) × (k ≡ a)
if_some true k a e = (refl, cc)
if_some false k a e = absurd (let z : ◌≡◌ {A = ℕ} 0 1 = cc in omega arith)

pub other_length : (k : ℕ) (bs : List ℕ) → (length bs ≢ k) → are_bytes k bs ≡ false
other_length k bs h = and_left (length bs == k) (all_bytes bs) (ne_eqb (length bs) k h)

-- a list of known length, by its elements
pub seven_is : (bs : List ℕ) → length bs ≡ 7 → slice_index bs 0 ∷ slice_index bs 1 ∷ slice_index bs 2 ∷ slice_index bs 3 ∷ slice_index bs 4 ∷ slice_index bs 5 ∷ slice_index bs 6 ∷ [] ≡ bs
seven_is [] l = absurd (omega arith)
seven_is (a ∷ []) l = absurd (omega arith)
seven_is (a ∷ b ∷ []) l = absurd (omega arith)
seven_is (a ∷ b ∷ c ∷ []) l = absurd (omega arith)
seven_is (a ∷ b ∷ c ∷ d ∷ []) l = absurd (omega arith)
seven_is (a ∷ b ∷ c ∷ d ∷ e ∷ []) l = absurd (omega arith)
seven_is (a ∷ b ∷ c ∷ d ∷ e ∷ f ∷ []) l = absurd (omega arith)
seven_is (a ∷ b ∷ c ∷ d ∷ e ∷ f ∷ g ∷ []) l = refl
seven_is (a ∷ b ∷ c ∷ d ∷ e ∷ f ∷ g ∷ h ∷ bs) l = absurd (omega arith)

pub eight_is : (bs : List ℕ) → length bs ≡ 8 → slice_index bs 0 ∷ slice_index bs 1 ∷ slice_index bs 2 ∷ slice_index bs 3 ∷ slice_index bs 4 ∷ slice_index bs 5 ∷ slice_index bs 6 ∷ slice_index bs 7 ∷ [] ≡ bs
eight_is [] l = absurd (omega arith)
eight_is (a ∷ []) l = absurd (omega arith)
eight_is (a ∷ b ∷ []) l = absurd (omega arith)
eight_is (a ∷ b ∷ c ∷ []) l = absurd (omega arith)
eight_is (a ∷ b ∷ c ∷ d ∷ []) l = absurd (omega arith)
eight_is (a ∷ b ∷ c ∷ d ∷ e ∷ []) l = absurd (omega arith)
eight_is (a ∷ b ∷ c ∷ d ∷ e ∷ f ∷ []) l = absurd (omega arith)
eight_is (a ∷ b ∷ c ∷ d ∷ e ∷ f ∷ g ∷ []) l = absurd (omega arith)
eight_is (a ∷ b ∷ c ∷ d ∷ e ∷ f ∷ g ∷ h ∷ []) l = refl
eight_is (a ∷ b ∷ c ∷ d ∷ e ∷ f ∷ g ∷ h ∷ i ∷ bs) l = absurd (omega arith)

-- eight bytes, with each quotient by one division
pub big_8 : (n : ℕ)
    → big_endian 8 n
    ≡ n / 72057594037927936 % 256
    ∷ n / 281474976710656 % 256
    ∷ n / 1099511627776 % 256
    ∷ n / 4294967296 % 256
    ∷ n / 16777216 % 256
    ∷ n / 65536 % 256
    ∷ n / 256 % 256
    ∷ n % 256
    ∷ []
big_8 n =
    let a : n / 256 / 256 ≡ n / 65536 = omega arith in
    let b : n / 65536 / 256 ≡ n / 16777216 = omega arith in
    let c : n / 16777216 / 256 ≡ n / 4294967296 = omega arith in
    let d : n / 4294967296 / 256 ≡ n / 1099511627776 = omega arith in
    let e : n / 1099511627776 / 256 ≡ n / 281474976710656 = omega arith in
    let f : n / 281474976710656 / 256 ≡ n / 72057594037927936 = omega arith in
    rw (a, b, c, d, e, f)
