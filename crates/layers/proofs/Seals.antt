-- Blocks with their check numbers.
use Rattle.std.proofs.Common.{◌≡◌, ℕ, ◌+◌, ◌-◌, ◌*◌, ◌/◌, ◌%◌, ◌≤◌, true, List, [], ◌∷◌, length, get_or, refl, arith, length-append, rules}
use Rattle.std.proofs.lemmas.Bool.{eq-eqb}
use Rattle.std.proofs.lemmas.List.{take_at, places}
use Rattle.std.proofs.lemmas.Bool.Decides.{nat_tests}
use Rattle.store.specs.Meaning.{Meaning, written}
use Rattle.layers.specs.Checks.{check, check_number, sealed, holds}
use Rattle.store.proofs.Meanings.{same_meaning}

pub sealed_holds : (xs : List ℕ) (b : ℕ) → holds (sealed xs b) b ≡ true
sealed_holds xs b =
    let n = check_number xs b in
    let e : length (sealed xs b) - 2 ≡ length xs = simp length-append (omega arith) in
    let t = take_at xs (n / 256 ∷ n % 256 ∷ []) (length xs) refl in
    let h : get_or (sealed xs b) (length xs) 0 ≡ n / 256 = search (rules, places) in
    let l : get_or (sealed xs b) (length xs + 1) 0 ≡ n % 256 = search (rules, places) in
    rw (e, t, h, l) (eq-eqb n (n / 256 * 256 + n % 256) (omega arith))

-- a sealed block written below is a block written
pub check_written : (m : Meaning) (t b : ℕ) (ys : List ℕ) → 3 ≤ m.size → length ys ≡ m.size - 2
    → check (written m b (sealed ys b)) t ≡ written (check m t) b ys
check_written m t b ys h l =
    let e = take_at ys (check_number ys b / 256 ∷ check_number ys b % 256 ∷ []) (m.size - 2) l in
    let v = sealed_holds ys b in
    same_meaning _ _ refl refl (λ k. grind (arith, nat_tests)) (λ k. grind (arith, nat_tests)) refl
