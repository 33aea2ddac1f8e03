-- Worked cases, computed from the definitions: moments, order 3, blocks of 64 bytes, records equal to keys where nothing else is said.
--
--   Step                 a call, or a look at what a block holds
--   Told                 what came of it
--   told_script n xs     what comes of the steps xs, one after another, on a blank store of n blocks, each with the reading list
--   table, expected      the cases and what they are to give
use Rattle.std.specs.Prelude.{ℕ, ◌-◌, ◌^◌, Bool, true, false, List, [], ◌∷◌, ◌++◌, map, drop, replicate, ℤ, pos, negsuc, Some, None, Ok, Err, Option}
use Rattle.keys.specs.declared.moment.Moment.{Moment}
use Rattle.keys.specs.Moments.{moment_at, moment_kind}
use Rattle.std.specs.Option.{option_map}
use Rattle.store.specs.Meaning.{Meaning}
use Rattle.tree.specs.declared.head.Head.{Head}
use Rattle.tree.specs.Calls.{find_plan, format_after, format_plan}
use Rattle.tree.specs.Entries.{see_entries}
use Rattle.tree.specs.Fields.{u32_at, u8_at}
use Rattle.tree.specs.Heads.{head_of}
use Rattle.tree.specs.Inserts.{insert_plan, put_all}
use Rattle.tree.specs.Plans.{Outcome, Plan, reading, run}
use Rattle.tree.specs.Ranges.{range_plan}
use Rattle.tree.specs.Refusals.{numbered}
use Rattle.tree.specs.Removes.{remove_plan}

pub data Step : Type 0 where
  Format : ℕ → Step
  Find : Moment → Step
  Insert : Moment → ℕ → Step
  Remove : Moment → Step
  Range : Moment → Moment → ℕ → Step
  Block : ℕ → Step
  Top : Step

pub data Told : Type 0 where
  formatted : Told
  found : Option ℕ → Told
  inserted : Told
  took : ℕ → Told
  ranged : List (ℤ × ℕ) → Bool → Told
  refused : ℕ → Told
  holds : ℕ → ℕ → Option (List (ℤ × ℕ)) → Told
  head : Head → Told

-- what a step told, which blocks it read, and what the store then means
pub record Done : Type 0 where
  pub told : Told
  pub reads : List ℕ
  pub after : Meaning

abbrev pub told_by : {P A : Type 0} → (A → Told) → (A → Meaning → Meaning) → List ℕ → Outcome P A → Done
told_by f g reads (Ok a, m) = record { told = f a; reads = reads; after = g a m }
told_by f g reads (Err s, m) = record { told = refused (numbered s.why); reads = reads; after = m }

abbrev pub carried : {P A : Type 0} → (A → Told) → (A → Meaning → Meaning) → Meaning → Plan P A → Done
carried f g m plan = told_by f g (reading m.contents plan) (run m plan)

abbrev pub seconds_of : List (Moment × ℕ) → List (ℤ × ℕ)
seconds_of es = map (λ e. (e.0.seconds, e.1)) es

abbrev pub step : Meaning → Step → Done
step m (Format order) = carried (λ _. formatted) (λ _ k. format_after moment_kind k order) m (format_plan moment_kind m.count m.size order)
step m (Find k) = carried found (λ _ k. k) m (find_plan moment_kind m.count m.size k)
step m (Insert k v) = carried (λ _. inserted) (λ ws k. put_all k ws) m (insert_plan moment_kind m.count m.size k v)
step m (Remove k) = carried (λ a. took a.0) (λ a k. put_all k a.1) m (remove_plan moment_kind m.count m.size k)
step m (Range lo hi cap) = carried (λ a. ranged (seconds_of a.0) a.1) (λ _ k. k) m (range_plan moment_kind m.count m.size lo hi cap)
step m (Block b) =
    let bs = m.contents b in
    record { told = holds (u8_at 0 bs) (u32_at 4 bs) (option_map seconds_of (see_entries moment_kind (u8_at 1 bs) (drop 8 bs))); reads = []; after = m }
step m Top = record { told = head (head_of (m.contents 0)); reads = []; after = m }

abbrev pub steps : Meaning → List Step → List (Told × List ℕ)
steps m [] = []
steps m (x ∷ xs) = let d = step m x in (d.told, d.reads) ∷ steps d.after xs

abbrev pub blank : ℕ → Meaning
blank n = record { count = n; size = 64; contents = λ b. replicate 64 0; mark = λ b. None; tally = 0 }

abbrev pub told_script : ℕ → List Step → List (Told × List ℕ)
told_script n xs = steps (blank n) xs

abbrev pub put : ℕ → Step
put k = Insert (moment_at k) k

abbrev pub entry : ℕ → ℤ × ℕ
entry k = (pos k, k)

abbrev pub top : ℕ → ℕ → ℕ → ℕ → ℕ → Told
top levels root first free keys = head (record { order = 3; levels = levels; root = root; first_free = first; free_count = free; key_count = keys })

abbrev pub four : List Step
four = Format 3 ∷ put 1 ∷ put 2 ∷ put 3 ∷ put 4 ∷ []

-- three keys go into the leaf; the fourth splits it
abbrev pub did_four : List (Told × List ℕ)
did_four =
    (formatted, []) ∷ (inserted, 0 ∷ 1 ∷ []) ∷ (inserted, 0 ∷ 1 ∷ []) ∷ (inserted, 0 ∷ 1 ∷ []) ∷ (inserted, 0 ∷ 1 ∷ 2 ∷ 3 ∷ []) ∷ []

abbrev pub table : List (ℕ × List Step)
table =
    -- a fresh index has no key, and two blocks are read to say so
    (8, Format 3 ∷ Find (moment_at 5) ∷ [])
    -- three keys stand in block 1, in one level
    ∷ (8, Format 3 ∷ put 1 ∷ put 2 ∷ put 3 ∷ Block 1 ∷ Top ∷ [])
    -- a fourth splits the leaf: blocks 1 and 2 under root 3
    ∷ (8, four ++ (Block 1 ∷ Block 2 ∷ Block 3 ∷ Top ∷ []))
    -- from there 1 is removed: the leaves merge in block 1, and the root goes to the free list after block 2
    ∷ (8, four ++ (Remove (moment_at 1) ∷ Block 1 ∷ Block 3 ∷ Block 2 ∷ Block 4 ∷ Top ∷ []))
    -- with 5 put in first, the right leaf has one to give
    ∷ (8, four ++ (put 5 ∷ Remove (moment_at 1) ∷ Block 1 ∷ Block 2 ∷ Block 3 ∷ []))
    -- a range in a buffer of two entries, and in one of three
    ∷ (8, four ++ (Range (moment_at 2) (moment_at 4) 2 ∷ []))
    ∷ (8, four ++ (Range (moment_at 2) (moment_at 4) 3 ∷ []))
    -- three blocks have no room for a split
    ∷ (3, four ++ (Find (moment_at 3) ∷ []))
    -- four have, and none is free then
    ∷ (4, four ++ (Top ∷ []))
    -- -1 stands before 0
    ∷ (8, Format 3 ∷ put 0 ∷ Insert (moment_at (2 ^ 64 - 1)) 7 ∷ Block 1 ∷ [])
    ∷ []

abbrev pub results : List (ℕ × List Step) → List (List (Told × List ℕ))
results [] = []
results (x ∷ xs) = told_script x.0 x.1 ∷ results xs

abbrev pub expected : List (List (Told × List ℕ))
expected =
    ((formatted, []) ∷ (found None, 0 ∷ 1 ∷ []) ∷ [])
    ∷ ((formatted, []) ∷ (inserted, 0 ∷ 1 ∷ []) ∷ (inserted, 0 ∷ 1 ∷ []) ∷ (inserted, 0 ∷ 1 ∷ [])
    ∷ (holds 1 0 (Some (entry 1 ∷ entry 2 ∷ entry 3 ∷ [])), []) ∷ (top 1 1 2 6 3, []) ∷ [])
    ∷ (did_four
    ++ ((holds 1 2 (Some (entry 1 ∷ entry 2 ∷ [])), []) ∷ (holds 1 0 (Some (entry 3 ∷ entry 4 ∷ [])), []) ∷ (holds 2 1 (Some ((pos 3, 2) ∷ [])), [])
    ∷ (top 2 3 4 4 4, []) ∷ []))
    ∷ (did_four
    ++ ((took 1, 0 ∷ 3 ∷ 1 ∷ 2 ∷ []) ∷ (holds 1 0 (Some (entry 2 ∷ entry 3 ∷ entry 4 ∷ [])), []) ∷ (holds 3 2 (Some []), []) ∷ (holds 3 4 (Some []), [])
    ∷ (holds 3 5 (Some []), []) ∷ (top 1 1 3 6 3, []) ∷ []))
    ∷ (did_four
    ++ ((inserted, 0 ∷ 3 ∷ 2 ∷ []) ∷ (took 1, 0 ∷ 3 ∷ 1 ∷ 2 ∷ []) ∷ (holds 1 2 (Some (entry 2 ∷ entry 3 ∷ [])), [])
    ∷ (holds 1 0 (Some (entry 4 ∷ entry 5 ∷ [])), []) ∷ (holds 2 1 (Some ((pos 4, 2) ∷ [])), []) ∷ []))
    ∷ (did_four ++ ((ranged (entry 2 ∷ entry 3 ∷ []) true, 0 ∷ 3 ∷ 1 ∷ 2 ∷ []) ∷ []))
    ∷ (did_four ++ ((ranged (entry 2 ∷ entry 3 ∷ entry 4 ∷ []) false, 0 ∷ 3 ∷ 1 ∷ 2 ∷ []) ∷ []))
    ∷ ((formatted, []) ∷ (inserted, 0 ∷ 1 ∷ []) ∷ (inserted, 0 ∷ 1 ∷ []) ∷ (inserted, 0 ∷ 1 ∷ []) ∷ (refused 11, 0 ∷ 1 ∷ []) ∷ (found (Some 3), 0 ∷ 1 ∷ []) ∷ [])
    ∷ (did_four ++ ((top 2 3 0 0 4, []) ∷ []))
    ∷ ((formatted, []) ∷ (inserted, 0 ∷ 1 ∷ []) ∷ (inserted, 0 ∷ 1 ∷ []) ∷ (holds 1 0 (Some ((negsuc 0, 7) ∷ entry 0 ∷ [])), []) ∷ [])
    ∷ []
