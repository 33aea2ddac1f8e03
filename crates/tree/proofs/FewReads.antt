-- How many reads a call carries, and how many levels few keys make.
use Rattle.std.proofs.Common.{ℕ, ◌-◌, ◌*◌, ◌^◌, ◌<◌, ◌≤◌, List, ◌∷◌, length, Option, Result, ap, ◌∙◌, ⊎_elim, arith, length-append}
use native.Mathlib.Nat.{pow-le-pow_right}
use Rattle.std.proofs.lemmas.Bool.{cases_lt}
use Rattle.store.specs.declared.fault.Fault.{Fault}
use Rattle.tree.specs.declared.refusal.Refusal.{Refusal}
use Rattle.tree.specs.declared.refusal.Refused.{Refused}
use Rattle.tree.specs.SoundCalls.{Ends, carried}
use Rattle.tree.specs.SoundCalls.Ends.{answered, refused}

-- a call carries no more reads than it would make without marks
pub carried_most : {A : Type 0} (mark : ℕ → Option Fault) (bs : List ℕ) (a : A) (r : Result (A × ℕ) (Refused Refusal)) → Ends mark bs a r → carried r ≤ length bs
carried_most mark bs a r (answered u e) = let h = ap carried e in omega arith
carried_most mark bs a r (refused before b behind f p u k e) =
    let h = ap carried e in let l = ap length p ∙ length-append before (b ∷ behind) in omega arith

-- four levels of half full nodes have 24,334 keys
pub few_levels : (levels n : ℕ) → (2 ≤ levels → 2 * (23 * 23 ^ (levels - 2)) ≤ n) → n < 24334 → levels ≤ 3
few_levels levels n h k = ⊎_elim
    (λ (l : 3 < levels).
    let two : 2 ≤ levels - 2 = omega arith in
    let p : 23 ^ 2 ≤ 23 ^ (levels - 2) = pow-le-pow_right {n = 23} (omega arith) two in
    let q = h (omega arith) in
    omega arith)
    (λ (l : levels ≤ 3). l)
    (cases_lt 3 levels)
