use Rattle.std.proofs.Common.{◌≡◌, ℕ, ◌+◌, ◌*◌, List, [], ◌∷◌, ◌++◌, drop, vec_items, sym, refl, ap, ◌∙◌, arith}
use Rattle.std.proofs.lemmas.Slice.{pushed}
use Rattle.numerals.specs.Hexadecimals.{hex_bytes}
use Rattle.numerals.proofs.HexSteps.{after, odd_digits, one_more, none_here, all_read, pair_is}
use Rattle.numerals.proofs.hex.bytes_of.Goals as goal

pub returns-then-not-is_empty : goal.returns-then-not-is_empty
returns-then-not-is_empty c = sym (odd_digits c.args.digits.now (λ e. grind (arith, c.as_chunks.ensures.back_len)))

pub returns-in_default : goal.returns-in_default
returns-in_default c = none_here c.args.digits.now (vec_items c.loop-pair.bytes) c.loop-pair.pair-index (omega arith) c.loop-pair.invariant
    (c.in_default.ensures ∙ pair_is c.as_chunks.result.0.now c.args.digits.now c.loop-pair.pair-index c.as_chunks.ensures.front (omega arith))

pub loop-pair-preserved : goal.loop-pair-preserved
loop-pair-preserved c =
    let cs = c.args.digits.now in
    let xs = vec_items c.loop-pair.bytes in
    let i = c.loop-pair.pair-index in
    let b = c.in-Some.byte in
    let p : vec_items c.push.new.self ≡ xs ++ (b ∷ []) = pushed (b ∷ []) refl c.in_ok-push.was c.push.ensures.items in
    one_more cs xs i b (omega arith) c.loop-pair.invariant (c.in-Some.ensures ∙ pair_is c.as_chunks.result.0.now cs i c.as_chunks.ensures.front (omega arith))
    ∙ ap (λ (w : List ℕ). after w (hex_bytes (drop (2 * (i + 1)) cs))) (sym p)

pub returns : goal.returns
returns c = all_read c.args.digits.now (vec_items c.loop-pair.bytes) c.loop-pair.pair-index (grind (arith, c.as_chunks.ensures.back_len)) c.loop-pair.invariant
