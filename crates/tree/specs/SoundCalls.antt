-- What calls do on sound files.
--
--   way S k           the head and the blocks from the root to the leaf of k
--   Ends mark bs a r  how a call ends that reads the blocks bs: with the answer a and as many reads if none is marked, and
--                     else refused by the first mark, with the reads up to there
--   carried r         the reads that an answer or a refusal carries
--   Finds m S k r     find of k at a store that means m, on its sound file S, with the answer r: it reads the way to k,
--                     levels + 1 blocks; only a mark on one of them refuses it; else it answers the map's record of k, or none.
--                     The map's keys rise strictly. There are few levels: two or more of them want as many keys as the least
--                     entries and children of the nodes make. So with 45 entries to a node fewer than 24,334 keys take at most
--                     four reads.
--   Counts m S r      count, in the same way: it reads the head, and answers how many keys the map has
--   Empty κ m         a store that means m holds a sound file with no keys
use Rattle.std.specs.Prelude.{◌≡◌, ℕ, ◌+◌, ◌-◌, ◌*◌, ◌^◌, ◌<◌, ◌≤◌, true, List, [], ◌∷◌, ◌++◌, length, Some, None, Ok, Err, Option, Result}
use Rattle.keys.specs.Kind.{Kind}
use Rattle.std.specs.List.{AllByRecursion}
use Rattle.store.specs.declared.fault.Fault.{Fault}
use Rattle.store.specs.Meaning.{Meaning}
use Rattle.tree.specs.declared.refusal.Refusal.{Refusal}
use Rattle.tree.specs.declared.refusal.Refusal.TheVariants.{Unreadable}
use Rattle.tree.specs.declared.refusal.Refused.{Refused}
use Rattle.tree.specs.Calls.{count_plan, find_plan}
use Rattle.tree.specs.Entries.{lookup, rises}
use Rattle.tree.specs.Nodes.{least_kids, least_leaf}
use Rattle.tree.specs.Plans.{reading}
use Rattle.tree.specs.Sound.{Sound, map_of}
use Rattle.tree.specs.Trees.{trail}

abbrev pub way : {K : Type 0} {κ : Kind K} {n size : ℕ} {c : ℕ → List ℕ} → Sound κ n size c → K → List ℕ
way {K} {κ} S k = 0 ∷ trail κ S.height k S.tree

pub data Ends {A : Type 0} (mark : ℕ → Option Fault) (bs : List ℕ) (a : A) (r : Result (A × ℕ) (Refused Refusal)) : Type 0 where
  answered : AllByRecursion (λ b. mark b ≡ None) bs → r ≡ Ok (a, length bs) → Ends mark bs a r
  refused : (before : List ℕ) (b : ℕ) (behind : List ℕ) (f : Fault) → bs ≡ before ++ b ∷ behind → AllByRecursion (λ x. mark x ≡ None) before → mark b ≡ Some f
      → r ≡ Err (record { refusal = Unreadable f; reads = length before + 1 }) → Ends mark bs a r

abbrev pub carried : {A : Type 0} → Result (A × ℕ) (Refused Refusal) → ℕ
carried (Ok a) = a.1
carried (Err e) = e.reads

pub record Finds {K : Type 0} {κ : Kind K} (m : Meaning) (S : Sound κ m.count m.size m.contents) (k : K) (r : Result (Option ℕ × ℕ) (Refused Refusal)) : Type 0 where
  pub reads : reading m.contents (find_plan κ m.count m.size k) ≡ way S k
  pub many : length (way S k) ≡ S.head.levels + 1
  pub ends : Ends m.mark (way S k) (lookup κ k (map_of S)) r
  pub ordered : rises κ (map_of S) ≡ true
  pub shallow : 2 ≤ S.head.levels → 2 * (least_leaf S.head.order * least_kids S.head.order ^ (S.head.levels - 2)) ≤ length (map_of S)
  pub four : S.head.order ≡ 45 → length (map_of S) < 24334 → carried r ≤ 4

pub record Counts {K : Type 0} {κ : Kind K} (m : Meaning) (S : Sound κ m.count m.size m.contents) (r : Result (ℕ × ℕ) (Refused Refusal)) : Type 0 where
  pub reads : reading m.contents (count_plan κ m.count m.size) ≡ 0 ∷ []
  pub ends : Ends m.mark (0 ∷ []) (length (map_of S)) r

abbrev pub Empty : {K : Type 0} → Kind K → Meaning → Type 0
Empty κ m = (s : Sound κ m.count m.size m.contents) × (map_of s ≡ [])
