-- Going through entries: the first, one more, the end, and bytes that are too short.
use Rattle.std.proofs.Common.{◌≡◌, ℕ, zero, suc, ◌+◌, ◌-◌, ◌*◌, ◌<◌, ◌≤◌, Bool, true, false, ◌&&◌, eqb, leb, ◌⊎◌, List, [], ◌∷◌, length, take, drop, Some, None, Option, sym, refl, ap, ◌∙◌, inl, inr, suc-mul, arith, length-drop, length-take, drop-drop}
use Rattle.std.proofs.lemmas.Nat.{mul-le}
use Rattle.std.proofs.lemmas.Bool.{and_right, or_cases, eqb-true, leb-true, leb-false}
use Rattle.keys.specs.Kind.{Kind, Lawful}
use Rattle.keys.specs.Rows.{front_key, keys_of, rise_above, rise, rows_rise, rows_fit}

-- entry i of n lies before the end of the last key
pub entry_fits : (i n e w l : ℕ) → i < n → (n - 1) * e + w ≤ l → i * e + w ≤ l
entry_fits i n e w l h k = omega (arith, mul-le i e (n - 1) e (omega arith) (omega arith))

pub next_entry : (i e : ℕ) (bs : List ℕ) → drop e (drop (i * e) bs) ≡ drop ((i + 1) * e) bs
next_entry i e bs = drop-drop e (i * e) bs ∙ ap (λ (k : ℕ). drop k bs) (omega arith)

module _ {K : Type 0} (κ : Kind K) where
  -- a key is there and lies above low, and the rest goes on from it
  abbrev pub goes_on : K → Option K → (K → Bool) → Bool
  goes_on low None rest = false
  goes_on low (Some k) rest = κ.less low k && rest k

  abbrev pub starts : Option K → (K → Bool) → Bool
  starts None rest = false
  starts (Some k) rest = rest k

  above_by : (low : K) (o : Option K) (ks : List (Option K)) → rise_above κ low (o ∷ ks) ≡ goes_on low o (λ k. rise_above κ k ks)
  unfolding rise_above
  above_by low None ks = refl
  above_by low (Some k) ks = refl

  rise_by : (o : Option K) (ks : List (Option K)) → rise κ (o ∷ ks) ≡ starts o (λ k. rise_above κ k ks)
  unfolding rise
  rise_by None ks = refl
  rise_by (Some k) ks = refl

  keys_more : (e n i : ℕ) (bs : List ℕ) → i < n
      → keys_of κ e (n - i) (drop (i * e) bs) ≡ front_key κ (drop (i * e) bs) ∷ keys_of κ e (n - (i + 1)) (drop ((i + 1) * e) bs)
  unfolding keys_of
  keys_more e n i bs h = let q : n - i ≡ suc (n - (i + 1)) = omega arith in rw (q, next_entry i e bs)

  pub rise_more : (e n i : ℕ) (bs : List ℕ) (low : K) → i < n
      → rise_above κ low (keys_of κ e (n - i) (drop (i * e) bs))
      ≡ goes_on low (front_key κ (drop (i * e) bs)) (λ k. rise_above κ k (keys_of κ e (n - (i + 1)) (drop ((i + 1) * e) bs)))
  rise_more e n i bs low h = ap (rise_above κ low) (keys_more e n i bs h) ∙ above_by low (front_key κ (drop (i * e) bs)) _

  pub rise_all : (e n i : ℕ) (bs : List ℕ) (low : K) → n ≤ i → rise_above κ low (keys_of κ e (n - i) (drop (i * e) bs)) ≡ true
  unfolding keys_of rise_above
  rise_all e n i bs low h = let q : n - i ≡ 0 = omega arith in rw q

  pub rise_first : (e n : ℕ) (bs : List ℕ) → 0 < n
      → rows_rise κ e n bs ≡ starts (front_key κ (drop 0 bs)) (λ k. rise_above κ k (keys_of κ e (n - 1) (drop (1 * e) bs)))
  unfolding keys_of
  rise_first e n bs h =
      let q : n ≡ suc (n - 1) = omega arith in
      let o : 1 * e ≡ e = omega arith in
      ap (λ m. rise κ (keys_of κ e m bs)) q ∙ (rise_by (front_key κ bs) (keys_of κ e (n - 1) (drop e bs)) ∙ ap (λ m. starts (front_key κ bs) (λ k. rise_above κ k (keys_of κ e (n - 1) (drop m bs)))) (sym o))

  pub rise_none : (e n : ℕ) (bs : List ℕ) → n ≡ 0 → rows_rise κ e n bs ≡ true
  unfolding keys_of rise
  rise_none e n bs h = rw h

  -- what a test of the room tells
  pub room : (e n : ℕ) (bs : List ℕ) → 0 < n → rows_fit κ e n bs ≡ true → (n - 1) * e + κ.width ≤ length bs
  room e n bs h t = by (or_cases (eqb n 0) (leb ((n - 1) * e + κ.width) (length bs)) t)
    where
      by : (eqb n 0 ≡ true) ⊎ (leb ((n - 1) * e + κ.width) (length bs) ≡ true) → (n - 1) * e + κ.width ≤ length bs
      by (inl z) = absurd (let q = eqb-true n 0 z in omega arith)
      by (inr z) = leb-true ((n - 1) * e + κ.width) (length bs) z

  module _ (laws : Lawful κ) where
    no_key : (bs : List ℕ) → length bs < κ.width → front_key κ bs ≡ None
    no_key bs h = by (front_key κ bs) refl
      where
        by : (o : Option K) → front_key κ bs ≡ o → o ≡ None
        by None e = refl
        by (Some k) e =
            absurd (let w = ap length (laws.reads_only (take κ.width bs) k e) in let l = laws.as_wide k in let t = length-take κ.width bs in omega arith)

    shorter : (e n : ℕ) (bs : List ℕ) → length bs < suc n * e + κ.width → length (drop e bs) < n * e + κ.width
    shorter e n bs h = let m = suc-mul n e in let d = length-drop e bs in let w = laws.width_least in omega arith

    short_above : (e n : ℕ) (bs : List ℕ) (low : K) → length bs < n * e + κ.width → rise_above κ low (keys_of κ e (suc n) bs) ≡ false
    unfolding keys_of
    short_above e zero bs low h = above_by low (front_key κ bs) [] ∙ rw (no_key bs (omega arith))
    short_above e (suc n) bs low h = above_by low (front_key κ bs) (keys_of κ e (suc n) (drop e bs)) ∙ by (front_key κ bs) (λ k. short_above e n (drop e bs) k (shorter e n bs h))
      where
        by : (o : Option K) → ((k : K) → rise_above κ k (keys_of κ e (suc n) (drop e bs)) ≡ false) → goes_on low o (λ k. rise_above κ k (keys_of κ e (suc n) (drop e bs))) ≡ false
        by None f = refl
        by (Some k) f = and_right (κ.less low k) (rise_above κ k (keys_of κ e (suc n) (drop e bs))) (f k)

    short_rise : (e n : ℕ) (bs : List ℕ) → length bs < n * e + κ.width → rows_rise κ e (suc n) bs ≡ false
    unfolding keys_of
    short_rise e zero bs h = rise_by (front_key κ bs) [] ∙ rw (no_key bs (omega arith))
    short_rise e (suc n) bs h = rise_by (front_key κ bs) (keys_of κ e (suc n) (drop e bs)) ∙ by (front_key κ bs)
      where
        by : (o : Option K) → starts o (λ k. rise_above κ k (keys_of κ e (suc n) (drop e bs))) ≡ false
        by None = refl
        by (Some k) = short_above e n (drop e bs) k (shorter e n bs h)

    -- bytes that do not reach to the end of the last key have one that cannot be read
    pub too_short : (e n : ℕ) (bs : List ℕ) → 0 < n → leb ((n - 1) * e + κ.width) (length bs) ≡ false → rows_rise κ e n bs ≡ false
    too_short e zero bs h t = absurd (omega arith)
    too_short e (suc n) bs h t =
        let q : suc n - 1 ≡ n = omega arith in
        short_rise e n bs (let f = leb-false ((suc n - 1) * e + κ.width) (length bs) t in rw q at f)
