-- The order of a kind's keys: b is at least a where it is not less.
use Rattle.std.proofs.Common.{◌≡◌, true, false, sym, subst}
use Rattle.std.proofs.lemmas.Bool.{both_ways}
use Rattle.keys.specs.Kind.{Kind, Lawful}
use Rattle.keys.specs.Kind.Only.{lower, higher, same}

module _ {K : Type 0} (κ : Kind K) (L : Lawful κ) where
  pub lt_not : (a b : K) → κ.less a b ≡ true → κ.less b a ≡ false
  lt_not a b h = elim (L.just_one a b) [ lower p q r ↦ q | higher p q r ↦ absurd (both_ways (κ.less a b) q h) | same p q r ↦ absurd (both_ways (κ.less a b) q h) ]

  -- a ≤ b < c
  pub le_lt : (a b c : K) → κ.less b a ≡ false → κ.less b c ≡ true → κ.less a c ≡ true
  le_lt a b c h k =
      elim (L.just_one a b) [ lower p q r ↦ L.transitive a b c p k | higher p q r ↦ absurd (both_ways (κ.less b a) h p) | same p q r ↦ subst (λ (x : K). κ.less x c ≡ true) (sym p) k ]

  -- a < b ≤ c
  pub lt_le : (a b c : K) → κ.less a b ≡ true → κ.less c b ≡ false → κ.less a c ≡ true
  lt_le a b c h k =
      elim (L.just_one b c) [ lower p q r ↦ L.transitive a b c h p | higher p q r ↦ absurd (both_ways (κ.less c b) k p) | same p q r ↦ subst (λ (x : K). κ.less a x ≡ true) p h ]

  -- a ≤ b ≤ c
  pub le_le : (a b c : K) → κ.less b a ≡ false → κ.less c b ≡ false → κ.less c a ≡ false
  le_le a b c h k = elim (L.just_one c a) [ lower p q r ↦ absurd (both_ways (κ.less b a) h (le_lt b c a k p)) | higher p q r ↦ q | same p q r ↦ q ]
