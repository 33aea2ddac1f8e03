-- What block 0 says: the head.
--
--   most_entries size width     the most entries that a block of that size has room for
--   head_of bs                  the head's numbers, whatever they are
--   has_letters, has_version    whether the letters PIX and the version 1 are there
--   rule_1 κ n size h           whether order, levels, root and first free block are within their bounds
--   see_head κ n size bs        block 0 of n blocks seen as the head of an index of the kind κ, or the refusal
--   write_head κ size h         the whole block that shows it
use Rattle.std.specs.Prelude.{ℕ, ◌+◌, ◌-◌, ◌/◌, Bool, cond, ◌&&◌, List, ◌∷◌, ◌++◌, Ok, Err, Result, ◌==◌, nat_lt}
use Rattle.keys.specs.Bytes.{big_endian}
use Rattle.keys.specs.Kind.{Kind}
use Rattle.tree.specs.declared.head.Head.{Head}
use Rattle.tree.specs.declared.rule.Rule.TheVariants.{HeadNumbers}
use Rattle.tree.specs.declared.refusal.Refusal.{Refusal}
use Rattle.tree.specs.declared.refusal.Refusal.TheVariants.{NoLetters, OtherVersion, OtherKind, Broken}
use Rattle.tree.specs.Fields.{padded, u16_at, u32_at, u8_at, within}
use Rattle.tree.specs.Nodes.{is_block}

abbrev pub most_entries : ℕ → ℕ → ℕ
most_entries size width = (size - 8) / (width + 4)

abbrev pub head_of : List ℕ → Head
head_of bs = record {
  order = u8_at 6 bs;
  levels = u8_at 7 bs;
  root = u16_at 8 bs;
  first_free = u16_at 10 bs;
  free_count = u16_at 12 bs;
  key_count = u32_at 14 bs;
}

abbrev pub has_letters : List ℕ → Bool
has_letters bs = u8_at 0 bs == 0x50 && (u8_at 1 bs == 0x49 && u8_at 2 bs == 0x58)

abbrev pub has_version : List ℕ → Bool
has_version bs = u8_at 3 bs == 0 && u8_at 4 bs == 1

module _ {K : Type 0} (κ : Kind K) where
  abbrev pub order_fits : ℕ → ℕ → Bool
  order_fits size m = within 3 (most_entries size κ.width) m

  abbrev pub rule_1 : ℕ → ℕ → Head → Bool
  rule_1 n size h = order_fits size h.order && (within 1 10 h.levels && (is_block n h.root && nat_lt h.first_free n))

  unfoldable pub see_head : ℕ → ℕ → List ℕ → Result Head Refusal
  see_head n size bs =
      cond (has_letters bs)
      (cond (has_version bs)
      (cond (u8_at 5 bs == κ.code) (cond (rule_1 n size (head_of bs)) (Ok (head_of bs)) (Err (Broken HeadNumbers 0))) (Err OtherKind))
      (Err OtherVersion))
      (Err NoLetters)

  abbrev pub write_head : ℕ → Head → List ℕ
  write_head size h =
      padded size
      (0x50 ∷ 0x49 ∷ 0x58 ∷ 0 ∷ 1 ∷ κ.code ∷ h.order ∷ h.levels
      ∷ (big_endian 2 h.root ++ (big_endian 2 h.first_free ++ (big_endian 2 h.free_count ++ big_endian 4 h.key_count))))
