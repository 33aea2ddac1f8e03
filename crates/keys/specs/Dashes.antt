-- Text cut at a dash.
--
-- dash                     the byte of a dash
-- to_dash cs               what stands before the first dash: all, if there is none
-- past_dash cs             what stands after the first dash: nothing, if there is none
-- dashed cs                whether a dash comes first
use Rattle.std.specs.Prelude.{ℕ, Bool, cond, List, [], ◌∷◌, ◌==◌, slice_index}

abbrev pub dash : ℕ
dash = 45

unfoldable pub to_dash : List ℕ → List ℕ
to_dash [] = []
to_dash (c ∷ cs) = cond (c == dash) [] (c ∷ to_dash cs)

unfoldable pub past_dash : List ℕ → List ℕ
past_dash [] = []
past_dash (c ∷ cs) = cond (c == dash) cs (past_dash cs)

abbrev pub dashed : List ℕ → Bool
dashed cs = slice_index cs 0 == dash
