-- What the blocks after the head say: nodes and free blocks.
--
--   Seen A                       a block seen as something: right, with what it holds, or wrong, by the first rule
--                                that it breaks
--   Node K                       a link and entries: of a leaf the next leaf and the records, of an inner node
--                                the first child and the children for keys from each key on
--   least_leaf m, least_kids m   the least entries of a leaf and the least children of an inner node, where m is the order
--   least m top is_leaf          the least entries of a node: the root or another, a leaf or an inner node
--   see_node κ n m is_leaf low bs  a block of n seen as a node of low to m entries
--   write_node κ size is_leaf d  the whole block that shows the node d
--   see_free n bs                a block of n seen as a free block: its link
--   write_free size link         the whole block that shows it
use Rattle.std.specs.Prelude.{ℕ, ◌+◌, ◌-◌, ◌/◌, Bool, true, false, ◌&&◌, List, [], ◌∷◌, ◌++◌, length, drop, Some, None, Option, ◌==◌, nat_le, nat_lt}
use Rattle.keys.specs.Bytes.{big_endian}
use Rattle.keys.specs.Kind.{Kind}
use Rattle.tree.specs.declared.rule.Rule.{Rule}
use Rattle.tree.specs.declared.rule.Rule.TheVariants.{Tag, Count, Keys, Links}
use Rattle.tree.specs.Entries.{rises, see_entries, write_entries}
use Rattle.tree.specs.Fields.{padded, u32_at, u8_at}

pub data Seen (A : Type 0) : Type 0 where
  wrong : Rule → Seen A
  right : A → Seen A

-- wrong by rule r where a test fails
abbrev pub check : {A : Type 0} → Rule → Bool → Seen A → Seen A
check r true s = s
check r false s = wrong r

abbrev pub or_wrong : {A B : Type 0} → Rule → (A → Seen B) → Option A → Seen B
or_wrong r f None = wrong r
or_wrong r f (Some a) = f a

pub record Node (K : Type 0) : Type 0 where
  pub link : ℕ
  pub entries : List (K × ℕ)

abbrev pub least_leaf : ℕ → ℕ
least_leaf m = (m + 1) / 2

abbrev pub least_kids : ℕ → ℕ
least_kids m = (m + 2) / 2

abbrev pub least : ℕ → Bool → Bool → ℕ
least m true true = 0
least m true false = 1
least m false true = least_leaf m
least m false false = least_kids m - 1

abbrev pub tag_of : Bool → ℕ
tag_of true = 1
tag_of false = 2

abbrev pub free_tag : ℕ
free_tag = 3

-- a block of n past the head
abbrev pub is_block : ℕ → ℕ → Bool
is_block n b = nat_lt 0 b && nat_lt b n

module _ {K : Type 0} (κ : Kind K) where
  unfoldable pub kids_fit : ℕ → List (K × ℕ) → Bool
  kids_fit n [] = true
  kids_fit n (e ∷ es) = is_block n e.1 && kids_fit n es

  -- rule 5: a leaf's link is below n, an inner node's children are blocks past the head
  abbrev pub numbers_fit : ℕ → Bool → Node K → Bool
  numbers_fit n true d = nat_lt d.link n
  numbers_fit n false d = is_block n d.link && kids_fit n d.entries

  abbrev pub node_with : List ℕ → List (K × ℕ) → Node K
  node_with bs es = record { link = u32_at 4 bs; entries = es }

  unfoldable pub see_node : ℕ → ℕ → Bool → ℕ → List ℕ → Seen (Node K)
  see_node n m is_leaf low bs =
      check Tag (u8_at 0 bs == tag_of is_leaf)
      (check Count (nat_le low (u8_at 1 bs) && nat_le (u8_at 1 bs) m)
      (or_wrong Keys (λ es. check Keys (rises κ es) (check Links (numbers_fit n is_leaf (node_with bs es)) (right (node_with bs es))))
      (see_entries κ (u8_at 1 bs) (drop 8 bs))))

  abbrev pub write_node : ℕ → Bool → Node K → List ℕ
  write_node size is_leaf d = padded size (tag_of is_leaf ∷ length d.entries ∷ 0 ∷ 0 ∷ (big_endian 4 d.link ++ write_entries κ d.entries))

abbrev pub see_free : ℕ → List ℕ → Seen ℕ
see_free n bs = check Tag (u8_at 0 bs == free_tag) (check Count (u8_at 1 bs == 0) (check Links (nat_lt (u32_at 4 bs) n) (right (u32_at 4 bs))))

abbrev pub write_free : ℕ → ℕ → List ℕ
write_free size link = padded size (free_tag ∷ 0 ∷ 0 ∷ 0 ∷ big_endian 4 link)
