-- A value that needs the proof of a test.
--
-- when t f                 what f makes of the proof, if the test t is true
use Rattle.std.specs.Prelude.{◌≡◌, Bool, true, false, Some, None, Option, refl}

abbrev pub when : {X : Type 0} (t : Bool) → (t ≡ true → X) → Option X
when true f = Some (f refl)
when false f = None
