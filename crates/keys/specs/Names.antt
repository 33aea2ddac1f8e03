-- The kind of names.
--
-- name_bytes k         the bytes of a name: its characters, and zeros
-- earlier bs cs        whether bs come before cs: by the first byte at which they differ
-- name_less a b        whether the name a comes before b, byte by byte
-- first_eight bs       the first eight of bs, zeros in place of those that are missing
-- name_in bs           the name in the first eight of bs, if they are padded as a name is
-- spelled bs           the name whose characters are bs, if each is one, and there are one to eight
-- name_kind            the kind of names: code 3, eight bytes
use Rattle.std.specs.Prelude.{ℕ, Bool, false, cond, ◌&&◌, List, [], ◌∷◌, length, None, Option, ◌==◌, nat_le, nat_lt, slice_index}
use Rattle.keys.specs.declared.name.Name.{Name}
use Rattle.keys.specs.Bytes.{are_bytes}
use Rattle.keys.specs.Kind.{Kind}
use Rattle.keys.specs.Padding.{all_characters, padded}
use Rattle.keys.specs.When.{when}

abbrev pub name_bytes : Name → List ℕ
name_bytes k = k.first ∷ k.second ∷ k.third ∷ k.fourth ∷ k.fifth ∷ k.sixth ∷ k.seventh ∷ k.eighth ∷ []

abbrev pub earlier : List ℕ → List ℕ → Bool
earlier [] cs = false
earlier (b ∷ bs) [] = false
earlier (b ∷ bs) (c ∷ cs) = cond (b == c) (earlier bs cs) (nat_lt b c)

abbrev pub name_less : Name → Name → Bool
name_less a b = earlier (name_bytes a) (name_bytes b)

abbrev pub first_eight : List ℕ → List ℕ
first_eight bs = slice_index bs 0 ∷ slice_index bs 1 ∷ slice_index bs 2 ∷ slice_index bs 3 ∷ slice_index bs 4 ∷ slice_index bs 5 ∷ slice_index bs 6 ∷ slice_index bs 7 ∷ []

unfoldable pub name_in : List ℕ → Option Name
name_in bs =
    when (padded (first_eight bs)) (λ rule.
    record {
      first = slice_index bs 0;
      second = slice_index bs 1;
      third = slice_index bs 2;
      fourth = slice_index bs 3;
      fifth = slice_index bs 4;
      sixth = slice_index bs 5;
      seventh = slice_index bs 6;
      eighth = slice_index bs 7;
      rule = rule;
    })

abbrev pub spelled : List ℕ → Option Name
spelled bs = cond (nat_le (length bs) 8 && all_characters bs) (name_in (first_eight bs)) None

abbrev pub name_kind : Kind Name
name_kind =
    record {
      width = 8;
      code = 3;
      less = name_less;
      write = name_bytes;
      read = λ bs. cond (are_bytes 8 bs) (name_in bs) None;
    }
