-- Blocks read and examined.
--
--   node_answer o b s      what reading block b answers that was refused by o, or seen as s
--   head_answer o s        the same of the head
--   order_after r m        the most entries of a node after the head was read, where they were m before
--   Reading κ is_leaf m top order b old new after r   block b was read over a store that means m, as a leaf or an inner
--                          node, the root or another, of at most `order` entries: the answer, the page and the store afterwards
use Rattle.std.specs.Prelude.{◌≡◌, ℕ, Bool, List, Some, None, Ok, Err, Option, Result}
use Rattle.keys.specs.Kind.{Kind}
use Rattle.store.specs.declared.fault.Fault.{Fault}
use Rattle.store.specs.Calls.{refusal, unless}
use Rattle.store.specs.Meaning.{Meaning, tallied}
use Rattle.tree.specs.declared.head.Head.{Head}
use Rattle.tree.specs.declared.refusal.Refusal.{Refusal}
use Rattle.tree.specs.declared.refusal.Refusal.TheVariants.{Broken, Unreadable}
use Rattle.tree.specs.Nodes.{Seen, least, see_node}
use Rattle.tree.specs.Nodes.Seen.{wrong, right}

abbrev pub node_answer : {D : Type 0} → Option Fault → ℕ → Seen D → Result Unit Refusal
node_answer (Some f) b s = Err (Unreadable f)
node_answer None b (wrong r) = Err (Broken r b)
node_answer None b (right d) = Ok tt

abbrev pub head_answer : Option Fault → Result Head Refusal → Result Head Refusal
head_answer (Some f) s = Err (Unreadable f)
head_answer None s = s

abbrev pub order_after : Result Head Refusal → ℕ → ℕ
order_after (Ok h) m = h.order
order_after (Err e) m = m

pub record Reading {K : Type 0} (κ : Kind K) (leaf : Bool) (m : Meaning) (top : Bool) (order b : ℕ) (old new : List ℕ) (after : Meaning) (r : Result Unit Refusal) : Type 0 where
  pub answer : r ≡ node_answer (refusal m b m.size) b (see_node κ m.count order leaf (least order top leaf) (m.contents b))
  pub filled : new ≡ unless (refusal m b m.size) (m.contents b) old
  pub tallies : after ≡ tallied m
