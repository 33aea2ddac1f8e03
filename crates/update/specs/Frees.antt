-- Free blocks read and examined.
--
--   free_answer o b s       what reading block b answers that was refused by o, or seen as s
--   frees_from κ n size k b       the plan of reading k blocks of the free list from block b on: these, and what follows
--   frees_seen m k b              the blocks of the free list from block b on, at most k, up to the first that cannot be read or is
--                                 no free block
--   FreesRead κ m k b r spare after     that plan was run over a store that means m: the answer, the blocks, the store afterwards
use Rattle.std.specs.Prelude.{◌≡◌, ℕ, List, Some, None, Ok, Err, Option, Result, zero, suc, cond, [], ◌∷◌, ◌==◌}
use Rattle.keys.specs.Kind.{Kind}
use Rattle.store.specs.declared.fault.Fault.{Fault}
use Rattle.store.specs.Calls.{refusal}
use Rattle.store.specs.Meaning.{Meaning}
use Rattle.tree.specs.declared.refusal.Refusal.{Refusal}
use Rattle.tree.specs.declared.refusal.Refusal.TheVariants.{Broken, Unreadable}
use Rattle.tree.specs.Inserts.{with_frees}
use Rattle.tree.specs.Nodes.{Seen, see_free}
use Rattle.tree.specs.Nodes.Seen.{wrong, right}
use Rattle.tree.specs.Plans.{Plan, bare, run}
use Rattle.tree.specs.Plans.Plan.{done}

abbrev pub free_answer : Option Fault → ℕ → Seen ℕ → Result ℕ Refusal
free_answer (Some f) b s = Err (Unreadable f)
free_answer None b (wrong r) = Err (Broken r b)
free_answer None b (right l) = Ok l

abbrev pub frees_from : {K : Type 0} → Kind K → ℕ → ℕ → ℕ → ℕ → Plan Unit (List ℕ × ℕ)
frees_from κ n size k b = with_frees κ n size tt k b (λ xs rest. done (xs, rest))

abbrev pub next_seen : ℕ → Result ℕ Refusal → (ℕ → List ℕ) → List ℕ
next_seen b (Ok l) go = b ∷ go l
next_seen b (Err e) go = []

unfoldable pub frees_seen : Meaning → ℕ → ℕ → List ℕ
frees_seen m zero b = []
frees_seen m (suc k) b = cond (b == 0) [] (next_seen b (free_answer (refusal m b m.size) b (see_free m.count (m.contents b))) (λ l. frees_seen m k l))

abbrev pub FreesRead : {K : Type 0} → Kind K → Meaning → ℕ → ℕ → Result ℕ Refusal → List ℕ → Meaning → Type 0
FreesRead κ m k b (Ok rest) spare after = run m (frees_from κ m.count m.size k b) ≡ (Ok (spare, rest), after)
FreesRead κ m k b (Err e) spare after = run m (frees_from κ m.count m.size k b) ≡ (bare (Err e), after)
