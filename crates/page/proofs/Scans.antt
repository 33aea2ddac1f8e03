-- How many entries a scan takes, and how long their bytes are.
use Rattle.std.proofs.Common.{◌≡◌, ℕ, zero, suc, ◌+◌, ◌-◌, ◌*◌, ◌≤◌, Bool, true, false, cond, List, [], ◌∷◌, ◌++◌, length, Some, sym, refl, ap, ◌∙◌, append_assoc, suc-mul, zero-mul, arith, length-append}
use Rattle.keys.specs.Digits.{length_big}
use Rattle.keys.specs.Bytes.{big_endian}
use Rattle.keys.specs.Kind.{Kind, Lawful}
use Rattle.tree.specs.Entries.{write_entries}
use Rattle.tree.specs.Ranges.{Scan, scan, take_one}

module _ {K : Type 0} (κ : Kind K) where
  -- what is left and what is taken are together what there was room for
  abbrev Split : ℕ → Scan K → Type 0
  Split cap s = s.left + length s.taken ≡ cap

  scan_split : (lo hi : K) (cap : ℕ) (es : List (K × ℕ)) → Split cap (scan κ lo hi cap es)
  scan_split lo hi cap [] = omega arith
  scan_split lo hi cap (e ∷ es) = go (κ.less e.0 lo) (κ.less hi e.0) cap (λ c. scan_split lo hi c es)
    where
      one : (c : ℕ) → ((d : ℕ) → Split d (scan κ lo hi d es)) → Split c (take_one c e (λ d. scan κ lo hi d es))
      one zero h = refl
      one (suc c) h = let i = h c in omega arith

      go : (a b : Bool) (c : ℕ) → ((d : ℕ) → Split d (scan κ lo hi d es))
          → Split c (cond a (scan κ lo hi c es) (cond b (record { taken = []; left = c; end = Some false }) (take_one c e (λ d. scan κ lo hi d es))))
      go true b c h = h c
      go false true c h = omega arith
      go false false c h = one c h

  pub scan_left : (lo hi : K) (cap : ℕ) (es : List (K × ℕ)) → (scan κ lo hi cap es).left ≡ cap - length (scan κ lo hi cap es).taken
  scan_left lo hi cap es = let h = scan_split lo hi cap es in omega arith

  pub scan_most : (lo hi : K) (cap : ℕ) (es : List (K × ℕ)) → length (scan κ lo hi cap es).taken ≤ cap
  scan_most lo hi cap es = let h = scan_split lo hi cap es in omega arith

  pub entries_append : (xs ys : List (K × ℕ)) → write_entries κ (xs ++ ys) ≡ write_entries κ xs ++ write_entries κ ys
  unfolding write_entries
  entries_append [] ys = refl
  entries_append (e ∷ xs) ys =
      ap (λ (w : List ℕ). (κ.write e.0 ++ big_endian 4 e.1) ++ w) (entries_append xs ys)
      ∙ sym (append_assoc (κ.write e.0 ++ big_endian 4 e.1) (write_entries κ xs) (write_entries κ ys))

  module _ (L : Lawful κ) where
    pub entries_length : (es : List (K × ℕ)) → length (write_entries κ es) ≡ length es * (κ.width + 4)
    unfolding write_entries
    entries_length [] = sym (zero-mul (κ.width + 4))
    entries_length (e ∷ es) =
        let a = length-append (κ.write e.0 ++ big_endian 4 e.1) (write_entries κ es) in
        let b = length-append (κ.write e.0) (big_endian 4 e.1) in
        let w = L.as_wide e.0 in
        let n = length_big 4 e.1 in
        let i = entries_length es in
        let m = suc-mul (length es) (κ.width + 4) in
        omega arith
