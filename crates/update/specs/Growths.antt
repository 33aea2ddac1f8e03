-- Insert as the code goes about it: down to the leaf, then up again, node by node.
--
--   then plan go              a plan, and then go with what it answers
--   Sprout K                  what an insert made of the way from a block down: the nodes that were split, the block that the
--                             free list then begins with, and how many blocks were needed
--   is_full m d                 whether a node has no room for one entry more
--   need_here full run all    how many blocks are needed where the leaf is full or not: `run` full nodes stand right above it, and
--                             `all` says whether all above it are full
--   sprout κ n size h k v l top run all b    from block b, l levels above the leaves, down and up again
--   finished κ size h s       what is written after that, the head among it
use Rattle.std.specs.Prelude.{ℕ, zero, suc, ◌+◌, Bool, true, false, ◌&&◌, length, nat_le}
use Rattle.keys.specs.Kind.{Kind}
use Rattle.tree.specs.declared.head.Head.{Head}
use Rattle.tree.specs.declared.refusal.Refusal.TheVariants.{NoRoom}
use Rattle.tree.specs.Entries.{lookup, part}
use Rattle.tree.specs.Inserts.{Grown, Writes, grow_frame, grow_leaf, if_new, insert_entry, inserted, when, with_frees}
use Rattle.tree.specs.Nodes.{Node, least}
use Rattle.tree.specs.Plans.{Plan, run}
use Rattle.tree.specs.Plans.Plan.{done, look, refuse}
use Rattle.tree.specs.Walks.{Frame, last_kid, with_node}

unfoldable pub then : {P A B : Type 0} → Plan P A → (A → Plan P B) → Plan P B
then (done a) go = go a
then (refuse p r) go = refuse p r
then (look p b k) go = look p b (λ bs. then (k bs) go)

pub record Sprout (K : Type 0) : Type 0 where
  pub grown : Grown K
  pub rest : ℕ
  pub need : ℕ

abbrev pub is_full : {K : Type 0} → ℕ → Node K → Bool
is_full m d = nat_le m (length d.entries)

abbrev pub one_if : Bool → ℕ
one_if true = 1
one_if false = 0

abbrev pub need_here : Bool → ℕ → Bool → ℕ
need_here true run all = 1 + run + one_if all
need_here false run all = 0

-- one node more above
abbrev pub run_on : Bool → ℕ → ℕ
run_on true run = run + 1
run_on false run = 0

module _ {K : Type 0} (κ : Kind K) (n size : ℕ) (h : Head) (k : K) (v : ℕ) where
  abbrev pub sprout_leaf : ℕ → ℕ → Node K → Plan Unit (Sprout K)
  sprout_leaf need b d =
      if_new κ n size tt
      (when tt NoRoom
      (with_frees κ n size tt need h.first_free (λ xs rest. done (record { grown = grow_leaf κ n size h.order b d.link (insert_entry κ k v d.entries) xs; rest = rest; need = need })))
      (nat_le need h.free_count))
      (lookup κ k d.entries)

  abbrev pub frame_of : ℕ → Node K → Frame K
  frame_of b d = let q = part κ k d.entries in record { block = b; link = d.link; before = q.low; behind = q.high }

  abbrev pub sprout_up : ℕ → Node K → Sprout K → Sprout K
  sprout_up b d s = record { grown = grow_frame κ n size h.order (frame_of b d) s.grown; rest = s.rest; need = s.need }

  abbrev pub kid_of : Node K → ℕ
  kid_of d = last_kid d.link (part κ k d.entries).low

  unfoldable pub sprout : ℕ → Bool → ℕ → Bool → ℕ → Plan Unit (Sprout K)
  sprout zero top run all b = with_node κ n tt h.order true (least h.order top true) b (λ d. sprout_leaf (need_here (is_full h.order d) run all) b d)
  sprout (suc l) top run all b =
      with_node κ n tt h.order false (least h.order top false) b
      (λ d. then (sprout l false (run_on (is_full h.order d) run) (is_full h.order d && all) (kid_of d)) (λ s. done (sprout_up b d s)))

  abbrev pub finished : Sprout K → Writes
  finished s = inserted κ n size h s.need s.rest s.grown
