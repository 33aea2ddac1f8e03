-- A leaf of one entry too many, split: in bytes, and as the plan has it.
use Rattle.std.proofs.Common.{◌≡◌, ℕ, suc, ◌+◌, ◌-◌, ◌*◌, ◌/◌, ◌<◌, ◌≤◌, true, List, [], ◌∷◌, ◌++◌, length, take, drop, Some, Option, slice_index, sym, ap, ◌∙◌, subst, arith, length-append, length-take}
use Rattle.std.proofs.lemmas.Bool.{lt-leb}
use Rattle.std.proofs.lemmas.List.{append_assoc, take-append-drop}
use Rattle.std.proofs.Math.Seq.{take-append_seam, drop-append_seam}
use Rattle.std.specs.Option.{option_map}
use Rattle.keys.specs.Bytes.{big_endian}
use Rattle.keys.specs.Kind.{Kind, Lawful}
use Rattle.page.proofs.Places.{back_bytes, front_bytes}
use Rattle.tree.specs.Entries.{key_of, write_entries}
use Rattle.tree.specs.Fields.{padded}
use Rattle.tree.specs.Inserts.{Grown, Writes, grow_leaf}
use Rattle.tree.specs.Nodes.{write_node}
use Rattle.update.specs.declared.growth.Growth.{Growth}
use Rattle.update.specs.Batches.{stacked}
use Rattle.update.specs.Memory.{Sprung}

module _ {K : Type 0} {κ : Kind K} (L : Lawful κ) where
  -- the key in front of entries
  key_front : (e : K × ℕ) (es : List (K × ℕ)) → key_of κ (write_entries κ (e ∷ es)) ≡ Some e.0
  unfolding write_entries
  key_front e es =
      rw (append_assoc (κ.write e.0) (big_endian 4 e.1) (write_entries κ es), ← L.as_wide e.0)
      (ap κ.read (take-append_seam (κ.write e.0) (big_endian 4 e.1 ++ write_entries κ es)) ∙ L.reads_back e.0)

  module _ (n size m b link : ℕ) (spare : List ℕ) where
    abbrev left : ℕ
    left = (m + 2) / 2

    abbrev new : ℕ
    new = slice_index spare 0

    -- what is written of such a leaf whose entries are low and then high
    abbrev split_writes : List (K × ℕ) → List (K × ℕ) → Writes
    split_writes low high =
        (b, write_node κ size true (record { link = new; entries = low })) ∷ (new, write_node κ size true (record { link = link; entries = high })) ∷ []

    split_grown : (low high : List (K × ℕ)) (e : K × ℕ) → length low ≡ left → m < length (low ++ (e ∷ high))
        → grow_leaf κ n size m b link (low ++ (e ∷ high)) spare ≡ record { writes = split_writes low (e ∷ high); up = Some (e.0, new); spare = drop 1 spare }
    split_grown low high e h l = rw (lt-leb (length (low ++ (e ∷ high))) m l, ← h, take-append_seam low (e ∷ high), drop-append_seam low (e ∷ high))

    module _ {a : Growth} {row front back : List ℕ} {up : Option (K × ℕ)} (spares : a.spare ≡ drop 1 spare)
        (cut_front : front ≡ take (left * (κ.width + 4)) row) (cut_back : back ≡ drop (left * (κ.width + 4)) row)
        (raised : up ≡ option_map (λ k. (k, new)) (key_of κ back)) where
      split_known : (low high : List (K × ℕ)) (e : K × ℕ) → length low ≡ left → m < length (low ++ (e ∷ high)) → row ≡ write_entries κ (low ++ (e ∷ high))
          → stacked a.batch size
          ≡ (b, padded size (1 ∷ length low ∷ 0 ∷ 0 ∷ (big_endian 4 new ++ front))) ∷ (new, padded size (1 ∷ suc (length high) ∷ 0 ∷ 0 ∷ (big_endian 4 link ++ back))) ∷ []
          → Sprung size (grow_leaf κ n size m b link (low ++ (e ∷ high)) spare) a up
      split_known low high e h l r s =
          let f : front ≡ write_entries κ low = cut_front ∙ (rw (r, ← h) (front_bytes κ L low (e ∷ high))) in
          let k : back ≡ write_entries κ (e ∷ high) = cut_back ∙ (rw (r, ← h) (back_bytes κ L low (e ∷ high))) in
          let g = split_grown low high e h l in
          record {
            writes = s ∙ (rw (f, k) (sym (ap (λ (x : Grown K). x.writes) g)));
            spare = spares ∙ sym (ap (λ (x : Grown K). x.spare) g);
            up = raised ∙ (rw (k, key_front e high) (sym (ap (λ (x : Grown K). x.up) g)));
          }

      -- the leaf is split where memory holds the writes of both parts, the blocks left and what goes up
      pub leaf_split : (es : List (K × ℕ)) → m < length es → 3 ≤ m → row ≡ write_entries κ es
          → stacked a.batch size
          ≡ (b, padded size (1 ∷ left ∷ 0 ∷ 0 ∷ (big_endian 4 new ++ front))) ∷ (new, padded size (1 ∷ (length es - left) ∷ 0 ∷ 0 ∷ (big_endian 4 link ++ back))) ∷ []
          → Sprung size (grow_leaf κ n size m b link es spare) a up
      leaf_split es l t r s = by (take left es) (drop left es) (take-append-drop left es) (let w = length-take left es in omega arith)
        where
          by : (low high : List (K × ℕ)) → low ++ high ≡ es → length low ≡ left → Sprung size (grow_leaf κ n size m b link es spare) a up
          by low [] e h = absurd (let p = ap length e in let q = length-append low [] in omega arith)
          by low (x ∷ high) e h =
              let p = ap length e in
              let q = length-append low (x ∷ high) in
              let more : length es - left ≡ suc (length high) = omega arith in
              let less : left ≡ length low = sym h in
              subst (λ (z : List (K × ℕ)). Sprung size (grow_leaf κ n size m b link z spare) a up) e
              (split_known low high x h (omega arith) (r ∙ ap (write_entries κ) (sym e)) (s ∙ (rw (more, less))))
