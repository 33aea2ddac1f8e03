-- Remove, as a plan.
--
--   remove_entry κ k es        es without k
--   ends xs                    all but the last of xs, and the last
--   Mended K                   two neighbours after one of them was short: balanced, with a new separator, or merged
--   joined_up, from_left, from_right     the pair merged; the left one gives its last entry; the right one its first
--   mend_left, mend_right      a short node and its left or right neighbour
--   Pending K                  a node that is not written yet, with what is written already and the free list's front
--   settle, calm               the parent after its child was mended, or left as it was
--   mend_frame, mend           one node on the way, and the whole way from the leaf up, with the reads of the neighbours
--   removed                    the head; a root left with one child goes to the free list last
--   remove_plan κ n size k     the whole call: the record that was there, and the writes
use Rattle.std.specs.Prelude.{ℕ, ◌+◌, ◌-◌, Bool, true, false, cond, not, ◌&&◌, List, [], ◌∷◌, ◌++◌, length, Some, None, Option, nat_le, nat_lt}
use Rattle.keys.specs.Kind.{Kind}
use Rattle.tree.specs.declared.head.Head.{Head}
use Rattle.tree.specs.declared.refusal.Refusal.TheVariants.{KeyAbsent}
use Rattle.tree.specs.Entries.{lookup, same_key}
use Rattle.tree.specs.Heads.{write_head}
use Rattle.tree.specs.Inserts.{Writes}
use Rattle.tree.specs.Nodes.{Node, least, write_free, write_node}
use Rattle.tree.specs.Plans.{Plan}
use Rattle.tree.specs.Plans.Plan.{done, refuse}
use Rattle.tree.specs.Walks.{Found, Frame, last_kid, walk, when_fit, with_head, with_node}

abbrev pub is_nil : {X : Type 0} → List X → Bool
is_nil [] = true
is_nil (x ∷ xs) = false

abbrev pub ends_with : {X : Type 0} → X → List X → List X × X
ends_with x [] = ([], x)
ends_with x (y ∷ ys) = let r = ends_with y ys in (x ∷ r.0, r.1)

abbrev pub ends : {X : Type 0} → List X → Option (List X × X)
ends [] = None
ends (x ∷ xs) = Some (ends_with x xs)

abbrev pub first_key : {K : Type 0} → K → List (K × ℕ) → K
first_key k [] = k
first_key k (e ∷ es) = e.0

abbrev pub remove_entry : {K : Type 0} → Kind K → K → List (K × ℕ) → List (K × ℕ)
remove_entry κ k [] = []
remove_entry κ k (e ∷ es) = cond (same_key κ k e.0) es (e ∷ remove_entry κ k es)

pub data Mended (K : Type 0) : Type 0 where
  balanced : Node K → K → Node K → Mended K
  merged : Node K → Mended K

pub record Pending (K : Type 0) : Type 0 where
  pub block : ℕ
  pub node : Node K
  pub changed : Bool
  pub writes : Writes
  pub front : ℕ
  pub freed : ℕ

module _ {K : Type 0} where
  abbrev node : ℕ → List (K × ℕ) → Node K
  node link es = record { link = link; entries = es }

  -- between inner nodes the separator s comes along
  abbrev pub joined_up : Bool → Node K → K → Node K → Node K
  joined_up true l s r = node r.link (l.entries ++ r.entries)
  joined_up false l s r = node l.link (l.entries ++ (s, r.link) ∷ r.entries)

  abbrev pub from_left : Bool → Node K → K → Node K → List (K × ℕ) → K × ℕ → Mended K
  from_left true l s r init e = balanced (node l.link init) e.0 (node r.link (e ∷ r.entries))
  from_left false l s r init e = balanced (node l.link init) e.0 (node e.1 ((s, r.link) ∷ r.entries))

  abbrev pub from_right : Bool → Node K → K → Node K → K × ℕ → List (K × ℕ) → Mended K
  from_right true l s r e rest = balanced (node l.link (l.entries ++ e ∷ [])) (first_key e.0 rest) (node r.link rest)
  from_right false l s r e rest = balanced (node l.link (l.entries ++ (s, r.link) ∷ [])) e.0 (node e.1 rest)

  abbrev pub give_left : Bool → Node K → K → Node K → Option (List (K × ℕ) × (K × ℕ)) → Mended K
  give_left is_leaf l s r None = merged (joined_up is_leaf l s r)
  give_left is_leaf l s r (Some x) = from_left is_leaf l s r x.0 x.1

  abbrev pub give_right : Bool → Node K → K → Node K → List (K × ℕ) → Mended K
  give_right is_leaf l s r [] = merged (joined_up is_leaf l s r)
  give_right is_leaf l s r (e ∷ es) = from_right is_leaf l s r e es

  -- a neighbour gives only where it has more than its least
  abbrev pub mend_left : Bool → ℕ → Node K → K → Node K → Mended K
  mend_left is_leaf low l s r = cond (nat_lt low (length l.entries)) (give_left is_leaf l s r (ends l.entries)) (merged (joined_up is_leaf l s r))

  abbrev pub mend_right : Bool → ℕ → Node K → K → Node K → Mended K
  mend_right is_leaf low l s r = cond (nat_lt low (length r.entries)) (give_right is_leaf l s r r.entries) (merged (joined_up is_leaf l s r))

module _ {K : Type 0} (κ : Kind K) (n size : ℕ) where
  -- the parent f, whose entry for the right one of the pair stands between pre and post
  abbrev pub settle : Bool → Frame K → List (K × ℕ) → ℕ → List (K × ℕ) → Pending K → Mended K → Pending K
  settle is_leaf f pre right_block post r (balanced a s b) = record {
    block = f.block;
    node = node f.link (pre ++ (s, right_block) ∷ post);
    changed = true;
    writes = (last_kid f.link pre, write_node κ size is_leaf a) ∷ (right_block, write_node κ size is_leaf b) ∷ r.writes;
    front = r.front;
    freed = r.freed;
  }
  settle is_leaf f pre right_block post r (merged a) = record {
    block = f.block;
    node = node f.link (pre ++ post);
    changed = true;
    writes = (last_kid f.link pre, write_node κ size is_leaf a) ∷ (right_block, write_free size r.front) ∷ r.writes;
    front = right_block;
    freed = r.freed + 1;
  }

  abbrev pub flushed : Bool → Pending K → Writes
  flushed is_leaf r = cond r.changed ((r.block, write_node κ size is_leaf r.node) ∷ r.writes) r.writes

  abbrev pub calm : Bool → Frame K → Pending K → Pending K
  calm is_leaf f r = record {
    block = f.block;
    node = node f.link (f.before ++ f.behind);
    changed = false;
    writes = flushed is_leaf r;
    front = r.front;
    freed = r.freed;
  }

  -- there is no left neighbour: the right one, if there is one
  abbrev pub mend_beside : {A : Type 0} → ℕ → Bool → Frame K → Pending K → (Pending K → Plan Unit A) → List (K × ℕ) → Plan Unit A
  mend_beside m is_leaf f r go [] = go (calm is_leaf f r)
  mend_beside m is_leaf f r go (e ∷ es) =
      with_node κ n tt m is_leaf (least m false is_leaf) e.1
      (λ d. go (settle is_leaf f [] e.1 es r (mend_right is_leaf (least m false is_leaf) r.node e.0 d)))

  abbrev pub mend_short : {A : Type 0} → ℕ → Bool → Frame K → Pending K → (Pending K → Plan Unit A) → Option (List (K × ℕ) × (K × ℕ)) → Plan Unit A
  mend_short m is_leaf f r go None = mend_beside m is_leaf f r go f.behind
  mend_short m is_leaf f r go (Some x) =
      with_node κ n tt m is_leaf (least m false is_leaf) (last_kid f.link x.0)
      (λ d. go (settle is_leaf f x.0 x.1.1 f.behind r (mend_left is_leaf (least m false is_leaf) d x.1.0 r.node)))

  abbrev pub mend_frame : {A : Type 0} → ℕ → Bool → Frame K → Pending K → (Pending K → Plan Unit A) → Plan Unit A
  mend_frame m is_leaf f r go =
      cond (nat_le (least m false is_leaf) (length r.node.entries)) (go (calm is_leaf f r)) (mend_short m is_leaf f r go (ends f.before))

  abbrev pub mend : {A : Type 0} → ℕ → Pending K → List (Frame K) → (Pending K → Plan Unit A) → Plan Unit A
  mend m r [] go = go r
  mend m r (f ∷ fs) go = mend m r fs (λ q. mend_frame m (is_nil fs) f q go)

  abbrev pub removed : Head → Bool → Pending K → Writes
  removed h is_leaf r =
      cond (not is_leaf && is_nil r.node.entries)
      ((0, write_head κ size (record { order = h.order; levels = h.levels - 1; root = r.node.link; first_free = r.block; free_count = h.free_count + (r.freed + 1); key_count = h.key_count - 1 }))
      ∷ (r.block, write_free size r.front) ∷ r.writes)
      ((0, write_head κ size (record { order = h.order; levels = h.levels; root = h.root; first_free = r.front; free_count = h.free_count + r.freed; key_count = h.key_count - 1 }))
      ∷ flushed is_leaf r)

  abbrev pub taken_out : K → Head → Found K → Pending K
  taken_out k h f = record {
    block = f.leaf;
    node = node f.node.link (remove_entry κ k f.node.entries);
    changed = true;
    writes = [];
    front = h.first_free;
    freed = 0;
  }

  abbrev pub remove_found : K → Head → Found K → Option ℕ → Plan Unit (ℕ × Writes)
  remove_found k h f None = refuse tt KeyAbsent
  remove_found k h f (Some v) = mend h.order (taken_out k h f) f.path (λ q. done (v, removed h (is_nil f.path) q))

  abbrev pub remove_plan : K → Plan Unit (ℕ × Writes)
  remove_plan k =
      when_fit n size tt (with_head κ n size tt (λ h. walk κ n tt h.order k (h.levels - 1) true h.root
      (λ f. remove_found k h f (lookup κ k f.node.entries))))
