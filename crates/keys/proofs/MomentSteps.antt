-- Seconds that no moment has.
use Rattle.std.proofs.Common.{◌≡◌, ℕ, ◌+◌, ◌^◌, ◌<◌, false, ℤ, pos, Some, None, Option, FitsSigned, sym, refl, ap, ⊎_elim, arith}
use Rattle.std.specs.Int.Signed.{mag}
use Rattle.std.specs.Int.{w64}
use Rattle.std.proofs.lemmas.Bool.{lt-ltb, le-ltb, cases_order}
use Rattle.numerals.specs.Decimals.{below}
use Rattle.keys.specs.Moments.{moment_of}
use Rattle.keys.specs.MomentText.{moment_parts}
use Rattle.keys.specs.MomentLaws.{no_moment}

-- more than 64 bits hold
pub unfit : (y z : ℤ) → y ≡ z → (FitsSigned w64 y → ⊥) → moment_of z ≡ None
unfit y z q g = let h = rw q at g in no_moment z (⊎_elim (λ e. omega arith) (⊎_elim (λ l. absurd (h (record { sfits = l }))) (λ l. omega arith)) (cases_order (mag z) (2 ^ 63)))

-- a number that is not below the limit of those after zero
pub none_after : (o : Option ℕ) → None ≡ below (2 ^ 63) o → None ≡ moment_parts false (below (2 ^ 63 + 1) o)
none_after None e = refl
none_after (Some n) e = ⊎_elim (λ q. sym (at q)) (⊎_elim (λ l. absurd (low l)) (λ l. high l)) (cases_order n (2 ^ 63))
  where
    at : n ≡ 2 ^ 63 → moment_parts false (below (2 ^ 63 + 1) (Some n)) ≡ None
    at q = rw (lt-ltb n (2 ^ 63 + 1) (omega arith)) (no_moment (pos n) (omega arith))

    low : n < 2 ^ 63 → ⊥
    low l = let z : ◌≡◌ {A = Option ℕ} None (Some n) = rw (lt-ltb n (2 ^ 63) l) at e in let y : ◌≡◌ {A = ℕ} 0 1 = ap (λ o. elim o [ None ↦ 0 | Some m ↦ 1 ]) z in omega arith

    high : 2 ^ 63 < n → None ≡ moment_parts false (below (2 ^ 63 + 1) (Some n))
    high l = rw (le-ltb n (2 ^ 63 + 1) (omega arith))
