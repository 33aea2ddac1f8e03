use Rattle.std.proofs.Common.{◌≡◌, ℕ, ◌-◌, ◌<◌, List, [], ◌∷◌, ◌++◌, length, drop, Some, arith, rules, length-append}
use Rattle.keys.specs.Escapes.{after, one_more, no_more, too_many, done}
use Rattle.keys.specs.NameText.{first_byte, first_length, unescaped}
use Rattle.keys.proofs.text.name.unescape.Goals as goal

-- a byte more, of eight
one_of_eight : (xs cs rest : List ℕ) (b : ℕ) → 0 < length cs → length xs < 8 → first_byte cs ≡ Some b → rest ≡ drop (first_length cs) cs
    → after xs (unescaped (8 - length xs) cs) ≡ after (xs ++ (b ∷ [])) (unescaped (8 - length (xs ++ (b ∷ []))) rest)
one_of_eight xs cs rest b h m e d =
    let l = length-append xs (b ∷ []) in one_more (8 - length xs) (8 - length (xs ++ (b ∷ []))) xs cs rest b (omega arith) h e d

pub returns-in_err-byte : goal.returns-in_err-byte
returns-in_err-byte c = search (rules, no_more)

pub returns-in_err-ok : goal.returns-in_err-ok
returns-in_err-ok c = search (rules, too_many)

pub loop-rest-preserved : goal.loop-rest-preserved
loop-rest-preserved c = search (rules, one_of_eight)

pub returns : goal.returns
returns c = search (rules, done)
