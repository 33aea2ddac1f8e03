-- A walk over a leaf's bytes gives what a scan of its entries gives.
use Rattle.std.proofs.Common.{◌≡◌, ℕ, zero, suc, ◌+◌, ◌-◌, ◌*◌, ◌/◌, ◌<◌, ◌≤◌, Bool, true, false, cond, ltb, List, [], ◌∷◌, ◌++◌, length, get_or, take, drop, Some, None, Option, sym, refl, ap, ◌∙◌, suc-mul, arith, length-drop, length-take, rules}
use Rattle.std.proofs.lemmas.Nat.{div-add-mod', le-div, mod_below, mul-le}
use Rattle.std.proofs.ByRecursion.{All-from_get_or}
use Rattle.std.proofs.lemmas.List.{same_lists, places, take-append-drop, get_or-drop}
use Rattle.std.proofs.lemmas.Bool.{lt-ltb, le-ltb}
use Rattle.keys.specs.Digits.{big_from}
use Rattle.keys.specs.Bytes.{big_endian}
use Rattle.keys.specs.Kind.{Kind, Lawful}
use Rattle.page.proofs.Scans.{entries_length, scan_most}
use Rattle.page.proofs.Seen.{seen_right}
use Rattle.page.specs.Gathers.{Gathered, Walked, gather_by, gather_on}
use Rattle.store.specs.Blocks.{block_bytes, overlaid_length}
use Rattle.store.specs.Bytes.{Bytes, overlaid}
use Rattle.tree.specs.Entries.{join_entry, key_of, number_of, past, see_entries, write_entries}
use Rattle.tree.specs.Nodes.{Node, see_node}
use Rattle.tree.specs.Nodes.Seen.{right}
use Rattle.tree.specs.Ranges.{Scan, scan, take_one}

-- nothing put over
pub overlaid_none : (xs : List ℕ) (at : ℕ) → overlaid xs at [] ≡ xs
overlaid_none xs at = let z : at + 0 ≡ at = omega arith in rw z (take-append-drop at xs)

-- ys put over, and zs behind them
pub overlaid_twice : (xs : List ℕ) (at to : ℕ) (ys zs : List ℕ) → to ≡ at + length ys → at + (length ys + length zs) ≤ length xs
    → overlaid (overlaid xs at ys) to zs ≡ overlaid xs at (ys ++ zs)
overlaid_twice xs at to ys zs e h = same_lists _ _ (search (rules, places)) (λ k d l. grind (arith, places))

pub take_two : (a b : ℕ) (xs : List ℕ) → a + b ≤ length xs → take a xs ++ take b (drop a xs) ≡ take (a + b) xs
take_two a b xs h = same_lists _ _ (search (rules, places)) (λ k d l. grind (arith, places))

pub drop_bytes : (n : ℕ) (xs : List ℕ) → Bytes xs → Bytes (drop n xs)
drop_bytes n xs p j = rw (get_or-drop n xs j 0) (p (n + j))

triple : {a b : ℕ} (o : Option Bool) {x y : List ℕ} → a ≡ b → x ≡ y → ◌≡◌ {A = Walked} (a, o, x) (b, o, y)
triple o p q = cc

module _ {K : Type 0} (κ : Kind K) (L : Lawful κ) where
  -- an entry's bytes are those that its key and number are written in
  pub entry_bytes : (bs : List ℕ) (k : K) → κ.read (take κ.width bs) ≡ Some k → κ.width + 4 ≤ length bs → Bytes bs
      → κ.write k ++ big_endian 4 (number_of κ bs) ≡ take (κ.width + 4) bs
  entry_bytes bs k r h p =
      let w = κ.width in
      let a : κ.write k ≡ take w bs = L.reads_only (take w bs) k r in
      let l : length (take 4 (drop w bs)) ≡ 4 = simp (length-take, length-drop) (omega arith) in
      let b : big_endian 4 (number_of κ bs) ≡ take 4 (drop w bs) = big_from 4 (take 4 (drop w bs)) l (All-from_get_or (λ d. d < 256) (take 4 (drop w bs)) 0 (λ i _. block_bytes w 4 bs p i)) in
      let c : take w bs ++ take 4 (drop w bs) ≡ take (w + 4) bs = take_two w 4 bs h in
      rw (a, b) c

  module _ (lo hi : K) where
    -- what a scan gives, as a walk has it
    abbrev walked : ℕ → List ℕ → Scan K → Walked
    walked t buf s = (t + length s.taken, s.end, overlaid buf (t * (κ.width + 4)) (write_entries κ s.taken))

    -- room for cap entries behind the t that stand there
    abbrev Room : ℕ → ℕ → List ℕ → Type 0
    Room t cap buf = ((t + cap) * (κ.width + 4) ≤ length buf) × (length buf < (t + cap + 1) * (κ.width + 4))

    -- a walk that copies nothing
    nothing : (t : ℕ) (buf : List ℕ) (o : Option Bool) → (t, o, buf) ≡ walked t buf (record { taken = []; left = 0; end = o })
    unfolding write_entries
    nothing t buf o = let z : t + 0 ≡ t = omega arith in let y = overlaid_none buf (t * (κ.width + 4)) in cc

    -- by the entries: passed over, past the end, not fitting, or copied
    gather_entries : (n : ℕ) (bs : List ℕ) (t cap : ℕ) (buf : List ℕ) (es : List (K × ℕ)) → see_entries κ n bs ≡ Some es → n * (κ.width + 4) ≤ length bs → Bytes bs → Room t cap buf
        → gather_on κ lo hi n bs t buf ≡ walked t buf (scan κ lo hi cap es)
    unfolding see_entries gather_on write_entries
    gather_entries zero bs t c buf es h f p r = let e : es ≡ [] = some_same h in rw e (nothing t buf None)
      where
        some_same : Some [] ≡ Some es → es ≡ []
        some_same q = cc
    gather_entries (suc n) bs t c buf es h f p r =
        let k : n * (κ.width + 4) ≤ length (past κ bs) = simp length-drop (omega (arith, suc-mul n (κ.width + 4))) in
        let y : Bytes (past κ bs) = drop_bytes (κ.width + 4) bs p in
        go (key_of κ bs) (see_entries κ n (past κ bs)) refl refl h (λ fs e u d out m. gather_entries n (past κ bs) u d out fs e k y m)
      where
        by : (a b : Bool) (k : K) (fs : List (K × ℕ)) (c : ℕ) → Room t c buf → κ.read (take κ.width bs) ≡ Some k
            → ((u d : ℕ) (out : List ℕ) → Room u d out → gather_on κ lo hi n (past κ bs) u out ≡ walked u out (scan κ lo hi d fs))
            → cond a (gather_on κ lo hi n (past κ bs) t buf) (cond b (t, Some false, buf) (cond (ltb (length buf - t * (κ.width + 4)) (κ.width + 4)) (t, Some true, buf) (gather_on κ lo hi n (past κ bs) (t + 1) (overlaid buf (t * (κ.width + 4)) (take (κ.width + 4) bs)))))
            ≡ walked t buf (cond a (scan κ lo hi c fs) (cond b (record { taken = []; left = c; end = Some false }) (take_one c (k, number_of κ bs) (λ d. scan κ lo hi d fs))))
        by true b k fs c m e i = i t c buf m
        by false true k fs c m e i = nothing t buf (Some false)
        by false false k fs zero m e i =
            let l : length buf - t * (κ.width + 4) < κ.width + 4 = let x = m.1 in let y = m.0 in omega arith in
            rw (lt-ltb (length buf - t * (κ.width + 4)) (κ.width + 4) l) (nothing t buf (Some true))
        by false false k fs (suc c) m e i =
            let w = κ.width + 4 in
            let x = m.0 in
            let y = m.1 in
            let long : length (take w bs) ≡ w = simp length-take (omega (arith, suc-mul n w)) in
            let l : w ≤ length buf - t * w = omega arith in
            let next = overlaid buf (t * w) (take w bs) in
            let same : length next ≡ length buf = overlaid_length buf (t * w) (take w bs) (omega arith) in
            let s = scan κ lo hi c fs in
            let room : Room (t + 1) c next = (omega arith, omega arith) in
            let most : length s.taken * w ≤ c * w = mul-le (length s.taken) w c w (scan_most κ lo hi c fs) (omega arith) in
            let wide = entries_length κ L s.taken in
            let both : overlaid next ((t + 1) * w) (write_entries κ s.taken) ≡ overlaid buf (t * w) (take w bs ++ write_entries κ s.taken) = overlaid_twice buf (t * w) ((t + 1) * w) (take w bs) (write_entries κ s.taken) (omega arith) (omega arith) in
            let bytes : κ.write k ++ big_endian 4 (number_of κ bs) ≡ take w bs = entry_bytes bs k e (omega (arith, suc-mul n w)) p in
            let number : t + 1 + length s.taken ≡ t + suc (length s.taken) = omega arith in
            rw (le-ltb (length buf - t * w) w l) (i (t + 1) c next room ∙ triple s.end number (both ∙ ap (λ (x : List ℕ). overlaid buf (t * w) (x ++ write_entries κ s.taken)) (sym bytes)))

        go : (o : Option K) (q : Option (List (K × ℕ))) → key_of κ bs ≡ o → see_entries κ n (past κ bs) ≡ q → join_entry o (number_of κ bs) q ≡ Some es
            → ((fs : List (K × ℕ)) → see_entries κ n (past κ bs) ≡ Some fs → (u d : ℕ) (out : List ℕ) → Room u d out → gather_on κ lo hi n (past κ bs) u out ≡ walked u out (scan κ lo hi d fs))
            → gather_by κ lo hi o t buf (ltb (length buf - t * (κ.width + 4)) (κ.width + 4)) (gather_on κ lo hi n (past κ bs) t buf) (gather_on κ lo hi n (past κ bs) (t + 1) (overlaid buf (t * (κ.width + 4)) (take (κ.width + 4) bs)))
            ≡ walked t buf (scan κ lo hi c es)
        go None q a e j i = absurd (let z : ◌≡◌ {A = ℕ} 0 1 = cc in omega arith)
        go (Some k) None a e j i = absurd (let z : ◌≡◌ {A = ℕ} 0 1 = cc in omega arith)
        go (Some k) (Some fs) a e j i =
            let q : es ≡ (k, number_of κ bs) ∷ fs = cc in
            rw q (by (κ.less k lo) (κ.less hi k) k fs c r a (i fs e))

    -- what the buffer has room for is what the whole of it holds less what stands there
    room_is : (t : ℕ) (buf : List ℕ) → t * (κ.width + 4) ≤ length buf → Room t (length buf / (κ.width + 4) - t) buf
    room_is t buf h =
        let w = κ.width + 4 in
        let q = length buf / w in
        let l : t ≤ q = le-div t (length buf) w (omega arith) h in
        let e : t + (q - t) ≡ q = omega arith in
        let a = div-add-mod' (length buf) w in
        let b = mod_below (length buf) w (omega arith) in
        rw e (omega arith, omega arith)

    pub gathered : (n m low : ℕ) (bs : List ℕ) (d : Node K) → see_node κ n m true low bs ≡ right d → 8 + get_or bs 1 0 * (κ.width + 4) ≤ length bs → Bytes bs
        → (t : ℕ) (buf : List ℕ) → t * (κ.width + 4) ≤ length buf
        → (r : ℕ × Option Bool) (next : List ℕ) → (r.0, r.1, next) ≡ gather_on κ lo hi (get_or bs 1 0) (drop 8 bs) t buf → Gathered κ lo hi d t buf r next
    gathered n m low bs d h f p t buf g r next e =
        let s = seen_right κ n m true low bs d h in
        let l : get_or bs 1 0 * (κ.width + 4) ≤ length (drop 8 bs) = simp length-drop (omega arith) in
        let w = e ∙ gather_entries (get_or bs 1 0) (drop 8 bs) t (length buf / (κ.width + 4) - t) buf d.entries s.entries l (drop_bytes 8 bs p) (room_is t buf g) in
        record { number = ap (λ (x : Walked). x.0) w; end = ap (λ (x : Walked). x.1) w; filled = ap (λ (x : Walked). x.2) w }
