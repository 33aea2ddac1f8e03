-- Numbers in fewer than five bytes.
use Rattle.std.proofs.Common.{◌≡◌, ℕ, ◌+◌, ◌*◌, ◌-◌, ◌≤◌, List, [], ◌∷◌, ◌++◌, length, take, drop, replicate, w32, refl, arith, length-drop, length-take}
use Rattle.std.proofs.lemmas.List.{drop_more}
use Rattle.std.specs.Int.{from_be_bytes}
use Rattle.std.specs.Prelude.{slice_index}
use Rattle.keys.specs.Bytes.{from_bytes}

-- n bytes behind zeros, four in all
pub four_bytes : (n at : ℕ) (xs zs ds : List ℕ) → n ≤ 4 → at + n ≤ length xs → zs ≡ take (4 - n) (replicate 4 0) → ds ≡ take (at + n - at) (drop at xs)
    → from_be_bytes w32 (zs ++ ds) ≡ from_bytes (take n (drop at xs))
four_bytes n at xs zs ds h k a b =
    let z : at + n - at ≡ n = omega arith in
    let l : length (take n (drop at xs)) ≡ n = simp (length-take, length-drop) (omega arith) in
    rw (a, b, z) (let go = by (take n (drop at xs)) (omega arith) in rw l at go)
  where
    by : (ds : List ℕ) → length ds ≤ 4 → from_be_bytes w32 (take (4 - length ds) (replicate 4 0) ++ ds) ≡ from_bytes ds
    by [] h = refl
    by (a ∷ []) h = omega arith
    by (a ∷ b ∷ []) h = omega arith
    by (a ∷ b ∷ c ∷ []) h = omega arith
    by (a ∷ b ∷ c ∷ d ∷ []) h = omega arith
    by (a ∷ b ∷ c ∷ d ∷ e ∷ ds) h = absurd (omega arith)

-- two bytes are the first times 256 and the second
pub two_bytes : (n at : ℕ) (xs : List ℕ) → n ≡ 2 → at + n ≤ length xs → from_bytes (take n (drop at xs)) ≡ slice_index xs at * 256 + slice_index xs (at + 1)
two_bytes n at xs e h =
    let a = drop_more xs at 0 (omega arith) in
    let b = drop_more xs (at + 1) 0 (omega arith) in
    rw (e, a, b) (omega arith)
