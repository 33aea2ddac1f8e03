-- What a comparison of two keys says of the kind's order.
use Rattle.std.proofs.Common.{◌≡◌, Bool, true, false, not, Some, Option, ap, ◌∙◌, refl}
use Rattle.std.specs.declared.cmp.Ordering.{Ordering}
use Rattle.std.specs.Cmp.{Agrees}
use Rattle.std.specs.Ordering.{MatchOrdering, partial_lt, partial_ge, is_lt, is_ge, is_some_and}
use Rattle.keys.specs.Kind.{Kind, Lawful, Only, order}
use Rattle.keys.specs.Kind.Only.{lower, higher, same}
use Rattle.keys.specs.Order.{standing}

lower_is : (l g : Bool) → is_lt (standing l g) ≡ l
lower_is true g = refl
lower_is false true = refl
lower_is false false = refl

not_lower : (l g : Bool) → is_ge (standing l g) ≡ not l
not_lower true g = refl
not_lower false true = refl
not_lower false false = refl

-- where keys stand to one another says which of them is less, or that they are the same
pub cases : {K : Type 0} (κ : Kind K) → Lawful κ → (a b : K) → MatchOrdering (order κ a b) (κ.less a b ≡ true) (a ≡ b) (κ.less b a ≡ true)
cases κ L a b = go (L.just_one a b)
  where
    go : Only κ.less a b → MatchOrdering (order κ a b) (κ.less a b ≡ true) (a ≡ b) (κ.less b a ≡ true)
    go (lower p q r) = rw p refl
    go (higher p q r) = rw (q, p) refl
    go (same p q r) = rw (q, r) p

module _ {K : Type 0} (κ : Kind K) {part : K → K → Option Ordering} {whole : K → K → Ordering} (agree : Agrees part whole) (law : (a b : K) → whole a b ≡ order κ a b) (a b : K) where
  stand : part a b ≡ Some (order κ a b)
  stand = agree a b ∙ ap Some (law a b)

  -- `a < b`
  pub lt_less : partial_lt part a b ≡ κ.less a b
  lt_less = ap (is_some_and is_lt) stand ∙ lower_is (κ.less a b) (κ.less b a)

  -- `a >= b`
  pub ge_less : partial_ge part a b ≡ not (κ.less a b)
  ge_less = ap (is_some_and is_ge) stand ∙ not_lower (κ.less a b) (κ.less b a)
