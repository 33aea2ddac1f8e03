-- Orders of numbers, and pairs of an order first and another next.
use Rattle.std.specs.Prelude.{◌≡◌, ℕ, ◌<◌, Bool, true, false, cond, ltb, ◌==◌, nat_lt}
use Rattle.std.proofs.Common.{sym, ap, ◌∙◌, ⊎_elim, arith}
use Rattle.std.proofs.lemmas.Bool.{cases_order, lt-ltb, le-ltb}
use Rattle.std.proofs.lemmas.Bool.Decides.{nat_tests}
use Rattle.std.specs.declared.cmp.Ordering.TheVariants.{Less, Equal, Greater}
use Rattle.std.specs.declared.cmp.Ordering.{Ordering}
use Rattle.std.specs.Ordering.{nat_cmp, ordering_then}
use Rattle.keys.specs.Kind.{Only}
use Rattle.keys.specs.Kind.Only.{lower, higher, same}

-- less by one number, or where that is the same, by what follows
abbrev pub by_first : ℕ → ℕ → Bool → Bool
by_first x y rest = cond (x == y) rest (nat_lt x y)

pub by_less : (x y : ℕ) (b c : Bool) → x < y → (by_first x y b ≡ true) × (by_first y x c ≡ false)
by_less x y b c h = grind (arith, nat_tests)

pub by_same : (x y : ℕ) (b : Bool) → x ≡ y → by_first x y b ≡ b
by_same x y b h = grind (arith, nat_tests)

-- a part of two keys decides, or the rest does
pub first_only : {K : Type 0} (less : K → K → Bool) (part : K → ℕ) (rest : K → K → Bool) → ((a b : K) → less a b ≡ by_first (part a) (part b) (rest a b))
    → (a b : K) → (part a ≡ part b → Only rest a b) → Only less a b
first_only {K} less part rest is a b go =
    ⊎_elim (λ e. equal e (go e)) (⊎_elim low high) (cases_order (part a) (part b))
  where
    low : part a < part b → Only less a b
    low h = let p = by_less (part a) (part b) (rest a b) (rest b a) h in lower (is a b ∙ p.0) (is b a ∙ p.1) (λ e. let q = ap part e in omega arith)

    high : part b < part a → Only less a b
    high h = let p = by_less (part b) (part a) (rest b a) (rest a b) h in higher (is b a ∙ p.0) (is a b ∙ p.1) (λ e. let q = ap part e in omega arith)

    equal : part a ≡ part b → Only rest a b → Only less a b
    equal e (lower p q r) = lower (is a b ∙ (by_same _ _ _ e ∙ p)) (is b a ∙ (by_same _ _ _ (sym e) ∙ q)) r
    equal e (higher p q r) = higher (is b a ∙ (by_same _ _ _ (sym e) ∙ p)) (is a b ∙ (by_same _ _ _ e ∙ q)) r
    equal e (same p q r) = same p (is a b ∙ (by_same _ _ _ e ∙ q)) (is b a ∙ (by_same _ _ _ (sym e) ∙ r))

-- the last part decides alone
pub last_only : {K : Type 0} (part : K → ℕ) (a b : K) → (part a ≡ part b → a ≡ b) → Only (λ x y. ltb (part x) (part y)) a b
last_only part a b go =
    ⊎_elim (λ e. same (go e) (le-ltb (part a) (part b) (omega arith)) (le-ltb (part b) (part a) (omega arith)))
    (⊎_elim
    (λ h. lower (lt-ltb (part a) (part b) h) (le-ltb (part b) (part a) (omega arith)) (λ e. let q = ap part e in omega arith))
    (λ h. higher (lt-ltb (part b) (part a) h) (le-ltb (part a) (part b) (omega arith)) (λ e. let q = ap part e in omega arith)))
    (cases_order (part a) (part b))

-- where two stand to one another, of whether the first is less and whether the second is
abbrev pub standing : Bool → Bool → Ordering
standing l g = cond l Less (cond g Greater Equal)

pub nat_standing : (x y : ℕ) → nat_cmp x y ≡ standing (nat_lt x y) (nat_lt y x)
nat_standing x y = grind (arith, nat_tests)

pub then_standing : (x y : ℕ) (l g : Bool) (o : Ordering) → o ≡ standing l g → ordering_then (nat_cmp x y) o ≡ standing (by_first x y l) (by_first y x g)
then_standing x y l g o e = grind (arith, nat_tests)

pub last_standing : (x y : ℕ) → nat_cmp x y ≡ standing (by_first x y false) (by_first y x false)
last_standing x y = grind (arith, nat_tests)
