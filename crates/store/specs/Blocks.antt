-- Blocks of n bytes that lie one after another in a list.
use Rattle.std.specs.Prelude.{◌≡◌, ℕ, zero, suc, ◌+◌, ◌-◌, ◌*◌, ◌<◌, ◌≤◌, cond, ◌≢◌, List, ◌++◌, length, take, drop, replicate, ◌==◌, refl}
use Rattle.std.proofs.Common.{sym, ap, ◌∙◌, ⊎_elim, arith, suc-mul, zero-mul, rules, length-take, length-drop, length-append}
use Rattle.std.proofs.Math.Seq.{take-add}
use Rattle.std.proofs.lemmas.List.{same_lists, places}
use Rattle.std.proofs.lemmas.Bool.{cases_lt, cases_eq, eq-eqb, ne_eqb}
use Rattle.std.proofs.lemmas.Nat.{mul-le}
use Rattle.store.specs.Bytes.{Bytes, overlaid, gathered}

pub block_fits : (b c n l : ℕ) → b < c → c * n ≤ l → b * n + n ≤ l
block_fits b c n l h k = omega (arith, mul-le (suc b) n c n h (omega arith), suc-mul b n)

pub block_length : (b c n : ℕ) (xs : List ℕ) → b < c → c * n ≤ length xs → length (take n (drop (b * n) xs)) ≡ n
block_length b c n xs h k = simp (length-take, length-drop) (omega (arith, block_fits b c n (length xs) h k))

pub block_bytes : (at n : ℕ) (xs : List ℕ) → Bytes xs → Bytes (take n (drop at xs))
block_bytes at n xs h k = let z = h (at + k) in grind (arith, places)

pub overlaid_length : (xs : List ℕ) (at : ℕ) (ys : List ℕ) → at + length ys ≤ length xs → length (overlaid xs at ys) ≡ length xs
overlaid_length xs at ys h = simp (length-append, length-take, length-drop) (omega arith)

pub overlaid_bytes : (xs : List ℕ) (at : ℕ) (ys : List ℕ) → at + length ys ≤ length xs → Bytes xs → Bytes ys → Bytes (overlaid xs at ys)
overlaid_bytes xs at ys h p q k = let y = p k in let z = q (k - at) in grind (arith, places)

-- a whole block put over another
pub overlaid_whole : (xs ys : List ℕ) → length xs ≡ length ys → overlaid xs 0 ys ≡ ys
overlaid_whole xs ys h = same_lists _ _ (search (rules, places)) (λ k d l. grind (arith, places))

-- block b after ys was put into it from o on
block_here : (b n o : ℕ) (xs ys : List ℕ) → b * n + n ≤ length xs → o + length ys ≤ n
    → take n (drop (b * n) (overlaid xs (b * n + o) ys)) ≡ overlaid (take n (drop (b * n) xs)) o ys
block_here b n o xs ys f l = same_lists _ _ (search (rules, places)) (λ k d h. grind (arith, places))

-- another block k after the same
block_there : (k b n o : ℕ) (xs ys : List ℕ) → k ≢ b → b * n + n ≤ length xs → o + length ys ≤ n
    → take n (drop (k * n) (overlaid xs (b * n + o) ys)) ≡ take n (drop (k * n) xs)
block_there k b n o xs ys ne f l = ⊎_elim
    (λ (h : k < b). let z = block_fits k b n (b * n) h (omega arith) in same_lists _ _ (search (rules, places)) (λ i d j. grind (arith, places)))
    (λ (h : b ≤ k). let z = block_fits b k n (k * n) (omega arith) (omega arith) in same_lists _ _ (search (rules, places)) (λ i d j. grind (arith, places)))
    (cases_lt k b)

-- every block after the same
pub blocks_overlaid : (c n b o : ℕ) (xs ys zs : List ℕ) → b < c → c * n ≤ length xs → o + length ys ≤ n
    → zs ≡ overlaid xs (b * n + o) ys
    → (k : ℕ) → take n (drop (k * n) zs) ≡ cond (k == b) (overlaid (take n (drop (b * n) xs)) o ys) (take n (drop (k * n) xs))
blocks_overlaid c n b o xs ys zs h hx l p k =
    let f = block_fits b c n (length xs) h hx in
    ap (λ (w : List ℕ). take n (drop (k * n) w)) p ∙ ⊎_elim
    (λ (q : k ≡ b). rw (q, eq-eqb b b refl, block_here b n o xs ys f l))
    (λ (q : k ≡ b → ⊥). rw (ne_eqb k b q, block_there k b n o xs ys q f l))
    (cases_eq k b)

-- the first j blocks, one after another, are the list's front
pub blocks_gathered : (j n : ℕ) (xs : List ℕ) → j * n ≤ length xs → take (j * n) xs ≡ gathered j (λ b. take n (drop (b * n) xs))
unfolding gathered
blocks_gathered zero n xs h = rw (zero-mul n)
blocks_gathered (suc j) n xs h =
    let e : suc j * n ≡ j * n + n = suc-mul j n in
    rw e (take-add (j * n) n xs ∙ ap (λ (w : List ℕ). w ++ take n (drop (j * n) xs)) (blocks_gathered j n xs (omega arith)))

-- every block after block b was overlaid whole
pub blocks_written : (c n b : ℕ) (xs ys zs : List ℕ) → b < c → c * n ≤ length xs → length ys ≡ n → zs ≡ overlaid xs (b * n) ys
    → (k : ℕ) → take n (drop (k * n) zs) ≡ cond (k == b) ys (take n (drop (k * n) xs))
blocks_written c n b xs ys zs h hx l e k =
    let z : b * n ≡ b * n + 0 = omega arith in
    blocks_overlaid c n b 0 xs ys zs h hx (omega arith) (e ∙ ap (λ (w : ℕ). overlaid xs w ys) z) k
    ∙ ap (λ (w : List ℕ). cond (k == b) w (take n (drop (k * n) xs))) (overlaid_whole (take n (drop (b * n) xs)) ys (block_length b c n xs h hx ∙ sym l))

pub zero_bytes : (n : ℕ) → Bytes (replicate n 0)
zero_bytes n k = grind (arith, places)
