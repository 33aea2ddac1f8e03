-- Values that need the proof of a test.
use Rattle.std.specs.Prelude.{◌≡◌, ℕ, Bool, true, false, Some, None, Option, refl}
use Rattle.std.proofs.Common.{ap, arith}
use Rattle.std.proofs.Math.Bool.{Bool-set}
use Rattle.keys.specs.When.{when}

pub when_some : {X : Type 0} (t : Bool) (f : t ≡ true → X) (p : t ≡ true) → when t f ≡ Some (f p)
when_some {X} true f p = ap {B = Option X} (λ (q : true ≡ true). Some (f q)) (Bool-set true true refl p)
when_some false f p = absurd (grind arith)

pub when_none : {X : Type 0} (t : Bool) (f : t ≡ true → X) → t ≡ false → when t f ≡ None
when_none true f p = absurd (grind arith)
when_none false f p = refl

pub when_is : {X : Type 0} (t : Bool) (f : t ≡ true → X) (x : X) → when t f ≡ Some x → (p : t ≡ true) × (f p ≡ x)
when_is true f x e = (refl, cc)
when_is false f x e = absurd (let z : ◌≡◌ {A = ℕ} 0 1 = cc in omega arith)
