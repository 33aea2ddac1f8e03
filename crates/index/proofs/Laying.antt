-- Blocks written one after another.
use Rattle.std.proofs.Common.{◌≡◌, ℕ, ◌+◌, ◌<◌, Bool, true, false, cond, eqb, ltb, List, length, None, Ok, Err, Result, sym, refl, ap, ◌∙◌, arith}
use Rattle.std.proofs.lemmas.Bool.Decides.{nat_tests}
use Rattle.std.proofs.lemmas.Bool.{lt-ltb}
use Rattle.keys.specs.Kind.{Kind}
use Rattle.store.proofs.Meanings.{same_meaning}
use Rattle.store.specs.Calls.{Wrote, misuse, unless}
use Rattle.store.specs.declared.fault.Fault.{Fault}
use Rattle.store.specs.Meaning.{Meaning, written}
use Rattle.tree.specs.declared.refusal.Refusal.{Refusal}
use Rattle.tree.specs.declared.refusal.Refusal.TheVariants.{Unfit}
use Rattle.tree.specs.Calls.{format_after, format_plan, formatted, laid}
use Rattle.tree.specs.Heads.{order_fits}
use Rattle.tree.specs.Plans.{bare, run}
use Rattle.tree.specs.Walks.{is_fit}

pub laid_none : (m : Meaning) (f : ℕ → List ℕ) → m ≡ laid 0 m f
laid_none m f = same_meaning _ _ refl refl (λ k. grind (arith, nat_tests)) (λ k. grind (arith, nat_tests)) refl

pub laid_more : (i : ℕ) (m : Meaning) (f : ℕ → List ℕ) → written (laid i m f) i (f i) ≡ laid (i + 1) m f
laid_more i m f = same_meaning _ _ refl refl (λ k. contents k) (λ k. marks k) refl
  where
    contents : (k : ℕ) → cond (eqb k i) (f i) (cond (ltb k i) (f k) (m.contents k)) ≡ cond (ltb k (i + 1)) (f k) (m.contents k)
    contents k = grind (arith, nat_tests)

    marks : (k : ℕ) → cond (eqb k i) None (cond (ltb k i) None (m.mark k)) ≡ cond (ltb k (i + 1)) None (m.mark k)
    marks k = grind (arith, nat_tests)

-- one block more, by a write of it; n and l are the store's count and size
pub laid_next : (i n l : ℕ) (m now next : Meaning) (f : ℕ → ℕ → ℕ → List ℕ) (xs : List ℕ) (r : Result Unit Fault) → now ≡ laid i m (f m.count m.size) → n ≡ m.count → l ≡ m.size → i < n
    → xs ≡ f n l i → length xs ≡ m.size → Wrote now i xs r next → next ≡ laid (i + 1) m (f m.count m.size)
laid_next i n l m now next f xs r e en el h ex es w =
    let g = f m.count m.size in
    let a : ltb i m.count ≡ true = lt-ltb i m.count (omega arith) in
    let b : eqb (length xs) m.size ≡ true = grind (arith, nat_tests) in
    let c : next ≡ unless (misuse (laid i m g) i (length xs)) (written (laid i m g) i xs) (laid i m g) = rw e at w.after in
    let d : next ≡ written (laid i m g) i xs = rw (a, b) at c in
    let x : xs ≡ g i = rw (en, el) at ex in
    d ∙ (ap (written (laid i m g) i) x ∙ laid_more i m g)

-- The three ways of a format, where n and size are the store's.
module _ {K : Type 0} (κ : Kind K) (m : Meaning) (order n size : ℕ) (en : n ≡ m.count) (es : size ≡ m.size) where
  fit_is : (b : Bool) → b ≡ is_fit n size → is_fit m.count m.size ≡ b
  fit_is b h = ap (λ (x : ℕ). is_fit x m.size) (sym en) ∙ (ap (λ (x : ℕ). is_fit n x) (sym es) ∙ sym h)

  order_is : (b : Bool) → b ≡ order_fits κ size order → order_fits κ m.size order ≡ b
  order_is b h = ap (λ (x : ℕ). order_fits κ x order) (sym es) ∙ sym h

  pub record Ways (r : Result Unit Refusal) (after : Meaning) : Type 0 where
    pub answer : run m (format_plan κ m.count m.size order) ≡ (bare r, m)
    pub left : after ≡ format_after κ m order

  pub unfit_store : false ≡ is_fit n size → Ways (Err Unfit) m
  unfolding run
  unfit_store h = record { answer = rw (fit_is false h); left = rw (fit_is false h) }

  pub unfit_order : true ≡ is_fit n size → false ≡ order_fits κ size order → Ways (Err Unfit) m
  unfolding run
  unfit_order h k = record { answer = rw (fit_is true h, order_is false k); left = rw (fit_is true h, order_is false k) }

  pub all_laid : true ≡ is_fit n size → true ≡ order_fits κ size order → Ways (Ok tt) (laid m.count m (formatted κ m.count m.size order))
  unfolding run
  all_laid h k = record { answer = rw (fit_is true h, order_is true k); left = rw (fit_is true h, order_is true k) }
