-- The two parts of text by the place of its first dash.
use Rattle.std.specs.Prelude.{◌==◌, nat_lt}
use Rattle.std.proofs.Common.{◌≡◌, ℕ, suc, ◌+◌, ◌≤◌, Bool, true, false, not, cond, List, [], ◌∷◌, length, take, drop, Some, None, sym, refl, ap, arith}
use Rattle.std.specs.List.{position, prefix_len}
use Rattle.std.proofs.lemmas.Bool.{ltb-false}
use Rattle.keys.specs.Dashes.{dash, to_dash, past_dash}

-- how many bytes come before the first dash
abbrev pub before : List ℕ → ℕ
before cs = prefix_len (λ c. not (c == dash)) cs

before_more : (t : Bool) (c : ℕ) (cs : List ℕ) → to_dash cs ≡ take (before cs) cs → cond t [] (c ∷ to_dash cs) ≡ take (cond (not t) (1 + before cs) 0) (c ∷ cs)
before_more true c cs e = refl
before_more false c cs e = let q : 1 + before cs ≡ suc (before cs) = omega arith in rw q (ap (λ xs. c ∷ xs) e)

pub before_is : (cs : List ℕ) → to_dash cs ≡ take (before cs) cs
unfolding to_dash
before_is [] = refl
before_is (c ∷ cs) = before_more (c == dash) c cs (before_is cs)

past_more : (t : Bool) (c : ℕ) (cs : List ℕ) → past_dash cs ≡ drop (before cs + 1) cs → cond t cs (past_dash cs) ≡ drop (cond (not t) (1 + before cs) 0 + 1) (c ∷ cs)
past_more true c cs e = refl
past_more false c cs e = let q : 1 + before cs + 1 ≡ suc (before cs + 1) = omega arith in rw q e

pub past_is : (cs : List ℕ) → past_dash cs ≡ drop (before cs + 1) cs
unfolding past_dash
past_is [] = refl
past_is (c ∷ cs) = past_more (c == dash) c cs (past_is cs)

-- where there is a first dash, and where there is none
pub at_first : (cs : List ℕ) (i : ℕ) → Some i ≡ position (λ b. b == dash) cs → before cs ≡ i
at_first cs i e = by (nat_lt (before cs) (length cs)) e
  where
    by : (t : Bool) → Some i ≡ cond t (Some (before cs)) None → before cs ≡ i
    by true q = sym (ap (λ o. elim o [ None ↦ 0 | Some m ↦ m ]) q)
    by false q = absurd (let y : ◌≡◌ {A = ℕ} 1 0 = ap (λ o. elim o [ None ↦ 0 | Some m ↦ 1 ]) q in omega arith)

pub no_dash : (cs : List ℕ) → None ≡ position (λ b. b == dash) cs → length cs ≤ before cs
no_dash cs e = by (nat_lt (before cs) (length cs)) refl e
  where
    by : (t : Bool) → nat_lt (before cs) (length cs) ≡ t → None ≡ cond t (Some (before cs)) None → length cs ≤ before cs
    by true r q = absurd (let y : ◌≡◌ {A = ℕ} 0 1 = ap (λ o. elim o [ None ↦ 0 | Some m ↦ 1 ]) q in omega arith)
    by false r q = ltb-false (before cs) (length cs) r
