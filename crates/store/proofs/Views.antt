-- The plain store's bytes after a change.
use Rattle.std.proofs.Common.{◌≡◌, ℕ, ◌+◌, ◌*◌, ◌<◌, ◌≤◌, List, length, vec_items, vec_len, sym, ap, ◌∙◌, arith}
use Rattle.std.proofs.lemmas.List.{with_items_is}
use Rattle.std.specs.Vec.{with_items}
use Rattle.store.specs.declared.plain.PlainStore.{PlainStore}
use Rattle.store.specs.Bytes.{overlaid}
use Rattle.store.specs.Blocks.{block_fits, overlaid_length}

-- the bytes of a plain store after a part of block b was overlaid in them
pub patched_items : (s : PlainStore) (b at : ℕ) (xs ys zs : List ℕ) → b < s.count → at + length ys ≤ s.size
    → xs ≡ vec_items s.bytes → zs ≡ overlaid xs (b * s.size + at) ys
    → vec_items (with_items s.bytes zs) ≡ overlaid (vec_items s.bytes) (b * s.size + at) ys
patched_items s b at xs ys zs h l w e =
    let v = s.bytes in
    let f : zs ≡ overlaid (vec_items v) (b * s.size + at) ys = e ∙ ap (λ (u : List ℕ). overlaid u (b * s.size + at) ys) w in
    let g = block_fits b s.count s.size (vec_len v) h s.room in
    with_items_is v zs (ap length f ∙ (overlaid_length (vec_items v) (b * s.size + at) ys (omega (arith, v.ok.0)) ∙ sym v.ok.0)) ∙ f
