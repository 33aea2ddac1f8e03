-- Sound files: those that keep the ten rules.
--
--   Chain c b xs          the free list that begins with block b is xs: each link names the next, and 0 ends it
--   leads xs              the block of the first leaf, or 0 where there is none
--   Linked xs             each leaf's link is the next leaf, the last one's 0
--   Sound κ n size c      the n blocks of size bytes that hold c are a sound index of the kind κ
--   map_of S              the map that a sound file holds: its leaves' entries from left to right
use Rattle.std.specs.Prelude.{◌≡◌, ℕ, suc, ◌<◌, ◌≤◌, true, List, [], ◌∷◌, ◌++◌, length, drop, Some}
use Rattle.keys.specs.Kind.{Kind}
use Rattle.std.specs.List.{AllByRecursion}
use Rattle.tree.specs.declared.head.Head.{Head}
use Rattle.tree.specs.Entries.{rises, see_entries}
use Rattle.tree.specs.Fields.{u32_at, u8_at}
use Rattle.tree.specs.Heads.{has_letters, has_version, head_of, most_entries}
use Rattle.tree.specs.Nodes.{free_tag, least, numbers_fit, tag_of}
use Rattle.tree.specs.Trees.{EachNode, Parted, Tree, block_of, blocks_of, entries_of, leaves_of, times}

abbrev pub Chain : (ℕ → List ℕ) → ℕ → List ℕ → Type 0
Chain c b [] = b ≡ 0
Chain c b (x ∷ xs) = (b ≡ x) × (1 ≤ x) × Chain c (u32_at 4 (c x)) xs

abbrev pub leads : List (ℕ × ℕ) → ℕ
leads [] = 0
leads (x ∷ xs) = x.0

abbrev pub Linked : List (ℕ × ℕ) → Type 0
Linked [] = Unit {0}
Linked (x ∷ xs) = (x.1 ≡ leads xs) × Linked xs

pub record Sound {K : Type 0} (κ : Kind K) (n size : ℕ) (c : ℕ → List ℕ) : Type 0 where
  -- there are two blocks or more, of 64 bytes or more
  pub two_blocks : 2 ≤ n
  pub wide_blocks : 64 ≤ size
  -- block 0 is a head with the letters, the version and the code of the kind
  pub head : Head
  pub head_shown : head_of (c 0) ≡ head
  pub letters : has_letters (c 0) ≡ true
  pub version : has_version (c 0) ≡ true
  pub code : u8_at 5 (c 0) ≡ κ.code
  -- the tree that the file shows, from the head's root on, as many levels as the head says
  pub height : ℕ
  pub levels : head.levels ≡ suc height
  pub tree : Tree K height
  pub root : block_of K height tree ≡ head.root
  pub links_shown : EachNode (λ is_leaf top b d. u32_at 4 (c b) ≡ d.link) height true tree
  -- the free list that the file shows, from the head's first free block on
  pub free : List ℕ
  pub free_shown : Chain c head.first_free free
  -- rule 1: the order is from 3 to what a block has room for, the levels are 1 to 10, the root is a block past the head, and the first
  -- free block is below n
  pub order_bounds : (3 ≤ head.order) × (head.order ≤ most_entries size κ.width)
  pub levels_bounds : (1 ≤ head.levels) × (head.levels ≤ 10)
  pub root_bounds : (1 ≤ head.root) × (head.root < n)
  pub first_free_bound : head.first_free < n
  -- rule 2: the blocks at the last level are leaves, those above are inner nodes, those on the free list are free
  pub node_tags : EachNode (λ is_leaf top b d. u8_at 0 (c b) ≡ tag_of is_leaf) height true tree
  pub free_tags : AllByRecursion (λ b. u8_at 0 (c b) ≡ free_tag) free
  -- rule 3: a node has at most m entries, where m is the order. Outside the root a leaf has at least ⌈m/2⌉ and an inner node at least
  -- ⌈(m+1)/2⌉ - 1; an inner root has at least 1. A free block has 0.
  pub most_counts : EachNode (λ is_leaf top b d. u8_at 1 (c b) ≤ head.order) height true tree
  pub least_counts : EachNode (λ is_leaf top b d. least head.order top is_leaf ≤ u8_at 1 (c b)) height true tree
  pub free_counts : AllByRecursion (λ b. u8_at 1 (c b) ≡ 0) free
  -- rule 4: the keys of a node can be read, and they rise strictly
  pub keys_read : EachNode (λ is_leaf top b d. see_entries κ (u8_at 1 (c b)) (drop 8 (c b)) ≡ Some d.entries) height true tree
  pub keys_rise : EachNode (λ is_leaf top b d. rises κ d.entries ≡ true) height true tree
  -- rule 5: children are blocks past the head, and the links of leaves and free blocks are below n
  pub numbers_bounds : EachNode (λ is_leaf top b d. numbers_fit κ n is_leaf d ≡ true) height true tree
  pub free_links : AllByRecursion (λ b. u32_at 4 (c b) < n) free
  -- rule 6: every key in any node below a child is at least the separator before it and less than the one after it
  pub parted : Parted κ height tree
  -- rule 7: no block is met twice
  pub once : (b : ℕ) → times b (blocks_of K height tree ++ free) ≤ 1
  -- rule 8: each leaf's link is the next leaf, the last one's 0
  pub linked : Linked (leaves_of K height tree)
  -- rule 9: the free list is as long as the head says, and every block past the head is a node or on it
  pub free_count : length free ≡ head.free_count
  pub covered : (b : ℕ) → 1 ≤ b → b < n → 1 ≤ times b (blocks_of K height tree ++ free)
  -- rule 10: the head's count of keys is the count of the leaves' entries
  pub key_count : length (entries_of K height tree) ≡ head.key_count

abbrev pub map_of : {K : Type 0} {κ : Kind K} {n size : ℕ} {c : ℕ → List ℕ} → Sound κ n size c → List (K × ℕ)
map_of {K} S = entries_of K S.height S.tree
