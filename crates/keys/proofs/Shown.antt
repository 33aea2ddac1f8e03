-- How a byte of a name is shown, case by case.
use Rattle.std.proofs.Common.{◌≡◌, ℕ, List, [], codes, Result, sym, ap, subst}
use lib.Utf8.{encode}
use Rattle.std.proofs.lemmas.Bool.{ne_eqb}
use Rattle.std.specs.declared.fmt.Error.{Error}
use Rattle.std.specs.declared.fmt.Formatter.{Formatter}
use Rattle.std.specs.Fmt.{WritesOnOk}
use Rattle.keys.specs.NameText.{shown_byte}

-- what prints one text prints an equal one
pub prints_same : {W : Type 0} (took : W → List ℕ → W → Type 0) (f : Formatter W) (r : Result (Unit {0}) Error) (a b : List ℕ) (g : Formatter W) → a ≡ b → WritesOnOk took f r a g → WritesOnOk took f r b g
prints_same took f r a b g e = subst (λ (l : List ℕ). WritesOnOk took f r l g) e

pub shows_padding : (b : ℕ) → b ≡ 0 → [] ≡ shown_byte b
unfolding shown_byte
shows_padding b e = sym (ap shown_byte e)

pub shows_space : (b : ℕ) → b ≡ 32 → codes "%20" ≡ shown_byte b
unfolding shown_byte
shows_space b e = sym (ap shown_byte e)

pub shows_sign : (b : ℕ) → b ≡ 37 → codes "%25" ≡ shown_byte b
unfolding shown_byte
shows_sign b e = sym (ap shown_byte e)

pub shows_plain : (b c : ℕ) → (b ≡ 0 → ⊥) → (b ≡ 32 → ⊥) → (b ≡ 37 → ⊥) → c ≡ b → encode c ≡ shown_byte b
unfolding shown_byte
shows_plain b c p q r e = rw (e, ne_eqb b 0 p, ne_eqb b 32 q, ne_eqb b 37 r)
