-- The calls of the index, as plans. n is the store's count of blocks and size their length.
--
--   find_from κ n m k h top b  the record of k, looked for from block b on, h levels above the leaves
--   find_plan κ n size k       the record of k, or none
--   count_plan κ n size        how many keys there are
--   next_free n b              the free block after block b in a fresh index, or 0 after the last
--   formatted κ n size m b     what block b holds after a format with the order m
--   laid i m f                 m with each of the first i blocks written as f says
--   format_after κ m order     what a store that means m means after a format with that order
--   format_plan κ n size m     whether a format with the order m is carried out; it reads nothing
use Rattle.std.specs.Prelude.{ℕ, ◌+◌, ◌-◌, Bool, true, cond, List, [], None, Option, ◌==◌, nat_lt}
use Rattle.keys.specs.Kind.{Kind}
use Rattle.store.specs.Meaning.{Meaning}
use Rattle.tree.specs.declared.head.Head.{Head}
use Rattle.tree.specs.declared.refusal.Refusal.TheVariants.{Unfit}
use Rattle.tree.specs.Entries.{lookup}
use Rattle.tree.specs.Heads.{order_fits, write_head}
use Rattle.tree.specs.Nodes.{write_free, write_node}
use Rattle.tree.specs.Plans.{Plan}
use Rattle.tree.specs.Plans.Plan.{done, refuse}
use Rattle.tree.specs.Walks.{is_fit, walk, when_fit, with_head}

-- the blocks from 2 on are free, in rising order
abbrev pub next_free : ℕ → ℕ → ℕ
next_free n b = cond (nat_lt (b + 1) n) (b + 1) 0

module _ {K : Type 0} (κ : Kind K) (n : ℕ) where
  abbrev pub find_from : ℕ → K → ℕ → Bool → ℕ → Plan Unit (Option ℕ)
  find_from m k h top b = walk κ n tt m k h top b (λ f. done (lookup κ k f.node.entries))

module _ {K : Type 0} (κ : Kind K) (n size : ℕ) where
  abbrev pub find_below : K → Head → Plan Unit (Option ℕ)
  find_below k h = find_from κ n h.order k (h.levels - 1) true h.root

  abbrev pub find_plan : K → Plan Unit (Option ℕ)
  find_plan k = when_fit n size tt (with_head κ n size tt (find_below k))

  abbrev pub count_plan : Plan Unit ℕ
  count_plan = when_fit n size tt (with_head κ n size tt (λ h. done h.key_count))

  abbrev pub formatted : ℕ → ℕ → List ℕ
  formatted m b =
      cond (b == 0)
      (write_head κ size (record { order = m; levels = 1; root = 1; first_free = next_free n 1; free_count = n - 2; key_count = 0 }))
      (cond (b == 1) (write_node κ size true (record { link = 0; entries = [] })) (write_free size (next_free n b)))

  abbrev pub format_plan : ℕ → Plan Unit Unit
  format_plan m = when_fit n size tt (cond (order_fits κ size m) (done tt) (refuse tt Unfit))

abbrev pub laid : ℕ → Meaning → (ℕ → List ℕ) → Meaning
laid i m f = record {
  count = m.count;
  size = m.size;
  contents = λ b. cond (nat_lt b i) (f b) (m.contents b);
  mark = λ b. cond (nat_lt b i) None (m.mark b);
  tally = m.tally;
}

abbrev pub format_after : {K : Type 0} → Kind K → Meaning → ℕ → Meaning
format_after κ m order =
    cond (is_fit m.count m.size)
    (cond (order_fits κ m.size order) (laid m.count m (formatted κ m.count m.size order)) m)
    m
