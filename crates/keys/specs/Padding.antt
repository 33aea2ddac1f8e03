-- The rule of a name's bytes: a character first, then characters, then zeros to the end.
--
-- is_character b       whether a byte is a character: hexadecimal 20 to 7E
-- may_follow b c       whether c may stand after b: a zero after any byte, a character after a character
-- goes_on b bs         whether each of bs may stand after the one before it, the first after b
-- padded bs            the rule: the first is a character, and each other may stand after the one before it
-- all_characters bs    whether each is a character
use Rattle.std.specs.Prelude.{ℕ, Bool, true, false, ◌&&◌, ◌||◌, List, [], ◌∷◌, ◌==◌, nat_le}

abbrev pub is_character : ℕ → Bool
is_character b = nat_le 0x20 b && nat_le b 0x7e

abbrev pub may_follow : ℕ → ℕ → Bool
may_follow b c = c == 0 || (is_character b && is_character c)

abbrev pub goes_on : ℕ → List ℕ → Bool
goes_on b [] = true
goes_on b (c ∷ cs) = may_follow b c && goes_on c cs

unfoldable pub padded : List ℕ → Bool
padded [] = false
padded (b ∷ bs) = is_character b && goes_on b bs

unfoldable pub all_characters : List ℕ → Bool
all_characters [] = true
all_characters (b ∷ bs) = is_character b && all_characters bs
