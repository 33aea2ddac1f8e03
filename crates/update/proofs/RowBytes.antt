-- Rows of entries, cut in two.
use Rattle.std.proofs.Common.{◌≡◌, ℕ, ◌-◌, ◌*◌, List, length, drop, ◌∙◌, arith, length-drop}
use Rattle.std.proofs.Math.Nat.{mul_comm, mul-sub}

-- what is left of n entries of s bytes after k of them
pub length_left : (xs : List ℕ) (n k s : ℕ) → length xs ≡ n * s → length (drop (k * s) xs) ≡ (n - k) * s
length_left xs n k s h =
    let a = mul-sub s n k in
    let b = mul_comm s (n - k) in
    let c = mul_comm s n in
    let d = mul_comm s k in
    length-drop (k * s) xs ∙ omega arith
