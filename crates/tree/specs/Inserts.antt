-- Insert, as a plan.
--
--   Writes                     blocks to be written, each with all its bytes
--   put_all m ws               m after these writes
--   updated out                what comes of a plan that answers with writes: its answer, and the store after the writes
--   stands b ws                whether block b is written in ws
--   repeated ws                a block that is written twice in ws: the first one, from the end of ws on
--   once_each ws go            go where no block is written twice. A file in which one would be breaks rule 7
--   insert_entry κ k v es      es with k and v in their place
--   Need, needs, total_need    how many new blocks an insert needs: one for each full node from the leaf upward
--                              without a gap, and one more if all are full
--   with_frees n p k b go      read k blocks of the free list from b on, and go on with them and with what follows
--   Grown K                    what a part of the way was split into: its writes, what goes up, the blocks not used yet
--   grow_leaf, grow_inner      a leaf or an inner node that has one entry more, split where that is too many
--   grow                       the whole way, from the leaf up
--   finish                     the head, and a new root over the old one if that was split
--   insert_plan κ n size k v   the whole call
use Rattle.std.specs.Prelude.{ℕ, zero, suc, ◌+◌, ◌-◌, ◌/◌, Bool, true, false, cond, ◌&&◌, ◌||◌, List, [], ◌∷◌, ◌++◌, length, take, drop, Some, None, Ok, Err, Option, ◌==◌, nat_le, slice_index}
use Rattle.keys.specs.Kind.{Kind}
use Rattle.store.specs.Meaning.{Meaning, written}
use Rattle.tree.specs.declared.head.Head.{Head}
use Rattle.tree.specs.declared.rule.Rule.TheVariants.{FreeList, MetOnce}
use Rattle.tree.specs.declared.refusal.Refusal.{Refusal}
use Rattle.tree.specs.declared.refusal.Refusal.TheVariants.{Broken, KeyThere, NoRoom}
use Rattle.tree.specs.Entries.{lookup}
use Rattle.tree.specs.Heads.{write_head}
use Rattle.tree.specs.Nodes.{see_free, write_node}
use Rattle.tree.specs.Plans.{Outcome, Plan}
use Rattle.tree.specs.Plans.Plan.{done, look, refuse}
use Rattle.tree.specs.Walks.{Found, Frame, on_seen, walk, when_fit, with_head}

abbrev pub Writes : Type 0
Writes = List (ℕ × List ℕ)

abbrev pub put_all : Meaning → Writes → Meaning
put_all m [] = m
put_all m (w ∷ ws) = put_all (written m w.0 w.1) ws

abbrev pub updated : {A : Type 0} → Outcome Unit (A × Writes) → Outcome Unit A
updated (Ok a, m) = (Ok a.0, put_all m a.1)
updated (Err s, m) = (Err s, m)

abbrev pub stands : ℕ → Writes → Bool
stands b [] = false
stands b (w ∷ ws) = b == w.0 || stands b ws

abbrev pub or_repeated : Option ℕ → Bool → ℕ → Option ℕ
or_repeated (Some x) p b = Some x
or_repeated None true b = Some b
or_repeated None false b = None

unfoldable pub repeated : Writes → Option ℕ
repeated [] = None
repeated (w ∷ ws) = or_repeated (repeated ws) (stands w.0 ws) w.0

abbrev pub unless_repeated : {P A : Type 0} → P → Plan P A → Option ℕ → Plan P A
unless_repeated p go None = go
unless_repeated p go (Some b) = refuse p (Broken MetOnce b)

abbrev pub once_each : {P A : Type 0} → P → Writes → Plan P A → Plan P A
once_each p ws go = unless_repeated p go (repeated ws)

pub record Need : Type 0 where
  pub blocks : ℕ
  pub all : Bool

pub record Grown (K : Type 0) : Type 0 where
  pub writes : Writes
  pub up : Option (K × ℕ)
  pub spare : List ℕ

-- on at true, refused at false
abbrev pub when : {P A : Type 0} → P → Refusal → Plan P A → Bool → Plan P A
when p r go true = go
when p r go false = refuse p r

abbrev pub insert_entry : {K : Type 0} → Kind K → K → ℕ → List (K × ℕ) → List (K × ℕ)
insert_entry κ k v [] = (k, v) ∷ []
insert_entry κ k v (e ∷ es) = cond (κ.less k e.0) ((k, v) ∷ e ∷ es) (e ∷ insert_entry κ k v es)

module _ {K : Type 0} (κ : Kind K) (n size : ℕ) where
  abbrev pub next_need : Bool → ℕ → Need
  next_need true k = record { blocks = k + 1; all = true }
  next_need false k = record { blocks = k; all = false }

  abbrev pub needs : ℕ → Bool → List (Frame K) → Need
  needs m full [] = next_need full 0
  needs m full (f ∷ fs) = let r = needs m full fs in next_need (r.all && nat_le m (length f.before + length f.behind)) r.blocks

  abbrev pub root_too : Bool → ℕ → ℕ
  root_too true k = k + 1
  root_too false k = k

  abbrev pub total_need : Need → ℕ
  total_need r = root_too r.all r.blocks

  -- k blocks of the free chain from b on, and what follows them
  abbrev pub with_frees : {P A : Type 0} → P → ℕ → ℕ → (List ℕ → ℕ → Plan P A) → Plan P A
  with_frees p zero b go = go [] b
  with_frees p (suc k) b go = when p (Broken FreeList 0) (look p b (λ bs. on_seen p b (λ l. with_frees p k l (λ xs rest. go (b ∷ xs) rest)) (see_free n bs))) (nat_le 1 b)

  abbrev pub split_leaf : ℕ → ℕ → ℕ → List (K × ℕ) → List (K × ℕ) → List ℕ → Grown K
  split_leaf b link new low [] spare = record { writes = (b, write_node κ size true (record { link = link; entries = low })) ∷ []; up = None; spare = spare }
  split_leaf b link new low (e ∷ es) spare =
      record {
        writes = (b, write_node κ size true (record { link = new; entries = low })) ∷ (new, write_node κ size true (record { link = link; entries = e ∷ es })) ∷ [];
        up = Some (e.0, new);
        spare = spare;
      }

  abbrev pub fit_leaf : Bool → ℕ → ℕ → ℕ → List (K × ℕ) → List ℕ → Grown K
  fit_leaf true m b link es spare = record { writes = (b, write_node κ size true (record { link = link; entries = es })) ∷ []; up = None; spare = spare }
  fit_leaf false m b link es spare = split_leaf b link (slice_index spare 0) (take ((m + 2) / 2) es) (drop ((m + 2) / 2) es) (drop 1 spare)

  abbrev pub grow_leaf : ℕ → ℕ → ℕ → List (K × ℕ) → List ℕ → Grown K
  grow_leaf m b link es spare = fit_leaf (nat_le (length es) m) m b link es spare

  abbrev pub split_inner : ℕ → ℕ → ℕ → List (K × ℕ) → List (K × ℕ) → List ℕ → Writes → Grown K
  split_inner b link new low [] spare ws = record { writes = (b, write_node κ size false (record { link = link; entries = low })) ∷ ws; up = None; spare = spare }
  split_inner b link new low (e ∷ es) spare ws =
      record {
        writes = (b, write_node κ size false (record { link = link; entries = low })) ∷ (new, write_node κ size false (record { link = e.1; entries = es })) ∷ ws;
        up = Some (e.0, new);
        spare = spare;
      }

  abbrev pub fit_inner : Bool → ℕ → ℕ → ℕ → List (K × ℕ) → List ℕ → Writes → Grown K
  fit_inner true m b link es spare ws = record { writes = (b, write_node κ size false (record { link = link; entries = es })) ∷ ws; up = None; spare = spare }
  fit_inner false m b link es spare ws = split_inner b link (slice_index spare 0) (take ((m + 1) / 2) es) (drop ((m + 1) / 2) es) (drop 1 spare) ws

  abbrev pub grow_inner : ℕ → ℕ → ℕ → List (K × ℕ) → List ℕ → Writes → Grown K
  grow_inner m b link es spare ws = fit_inner (nat_le (length es) m) m b link es spare ws

  abbrev pub climb : ℕ → Frame K → Grown K → Option (K × ℕ) → Grown K
  climb m f r None = r
  climb m f r (Some e) = grow_inner m f.block f.link (f.before ++ e ∷ f.behind) r.spare r.writes

  abbrev pub grow_frame : ℕ → Frame K → Grown K → Grown K
  grow_frame m f r = climb m f r r.up

  abbrev pub grow : ℕ → ℕ → ℕ → List (K × ℕ) → List ℕ → List (Frame K) → Grown K
  grow m b link es spare [] = grow_leaf m b link es spare
  grow m b link es spare (f ∷ fs) = grow_frame m f (grow m b link es spare fs)

  -- the head, and a new root over the old one if that was split
  abbrev pub finish : Head → ℕ → ℕ → Grown K → Option (K × ℕ) → Writes
  finish h need rest r None = (0, write_head κ size (record { order = h.order; levels = h.levels; root = h.root; first_free = rest; free_count = h.free_count - need; key_count = h.key_count + 1 })) ∷ r.writes
  finish h need rest r (Some e) =
      (0, write_head κ size (record { order = h.order; levels = h.levels + 1; root = slice_index r.spare 0; first_free = rest; free_count = h.free_count - need; key_count = h.key_count + 1 }))
      ∷ (slice_index r.spare 0, write_node κ size false (record { link = h.root; entries = e ∷ [] })) ∷ r.writes

  abbrev pub inserted : Head → ℕ → ℕ → Grown K → Writes
  inserted h need rest r = finish h need rest r r.up

  abbrev pub if_new : {P A : Type 0} → P → Plan P A → Option ℕ → Plan P A
  if_new p go None = go
  if_new p go (Some v) = refuse p KeyThere

  -- after the path: is the key new, is there room, and then the free blocks
  abbrev pub insert_at : K → ℕ → Head → Found K → Plan Unit Writes
  insert_at k v h f =
      let need = total_need (needs h.order (nat_le h.order (length f.node.entries)) f.path) in
      if_new tt
      (when tt NoRoom
      (with_frees tt need h.first_free (λ xs rest. done (inserted h need rest (grow h.order f.leaf f.node.link (insert_entry κ k v f.node.entries) xs f.path))))
      (nat_le need h.free_count))
      (lookup κ k f.node.entries)

  abbrev pub insert_plan : K → ℕ → Plan Unit Writes
  insert_plan k v =
      when_fit n size tt (with_head κ n size tt (λ h. walk κ n tt h.order k (h.levels - 1) true h.root (insert_at k v h)))
