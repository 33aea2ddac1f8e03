-- A range, leaf by leaf.
use Rattle.std.proofs.Common.{◌≡◌, ℕ, suc, ◌+◌, ◌-◌, ◌*◌, ◌/◌, ◌<◌, ◌≤◌, Bool, true, false, cond, eqb, List, [], ◌++◌, length, Some, None, Ok, Err, Option, Result, sym, refl, ap, ◌∙◌, ⊎_elim, add-mul, zero-mul, arith, length-append, rules}
use Rattle.index.specs.Leaves.{Leaf}
use Rattle.index.specs.Rangings.{RangeEnd, ended, entries_of}
use Rattle.index.specs.Readings.{Reading}
use Rattle.index.proofs.Steps.{stops, went_on}
use Rattle.keys.specs.Kind.{Kind, Lawful}
use Rattle.page.specs.Gathers.{Gathered, scan_into}
use Rattle.page.proofs.Scans.{entries_append, entries_length, scan_left, scan_most}
use Rattle.page.proofs.Seen.{seen_right}
use Rattle.std.proofs.lemmas.List.{places, same_lists}
use Rattle.std.proofs.lemmas.Nat.{div-add-mod', mul-le}
use Rattle.std.proofs.lemmas.Bool.{cases_lt, eq-eqb, ne_eqb}
use Rattle.store.specs.Bytes.{overlaid}
use Rattle.store.specs.Meaning.{Meaning}
use Rattle.tree.specs.declared.rule.Rule.TheVariants.{Chain}
use Rattle.tree.specs.declared.refusal.RangeRefusal.{RangeRefusal}
use Rattle.tree.specs.declared.refusal.Refusal.{Refusal}
use Rattle.tree.specs.declared.refusal.Refusal.TheVariants.{Broken}
use Rattle.tree.specs.Entries.{write_entries}
use Rattle.tree.specs.Fields.{u32_at}
use Rattle.tree.specs.Nodes.{Node, least, see_node}
use Rattle.tree.specs.Plans.{Outcome, Plan, run}
use Rattle.tree.specs.Plans.Plan.{done}
use Rattle.tree.specs.Ranges.{Scan, after_leaf, chase, follow, scan}
use Rattle.tree.specs.Walks.{with_node}

-- bytes put behind bytes
overlaid_twice : (xs ys zs : List ℕ) (k : ℕ) → k ≡ length ys → k + length zs ≤ length xs → overlaid (overlaid xs 0 ys) k zs ≡ overlaid xs 0 (ys ++ zs)
overlaid_twice xs ys zs k e h = same_lists _ _ (search (rules, places)) (λ i d j. grind (arith, places))

module _ {K : Type 0} (κ : Kind K) (lo hi : K) (order : ℕ) (buf : List ℕ) where
  abbrev pub Came : Type 0
  Came = Outcome (List (K × ℕ)) (List (K × ℕ) × Bool)

  -- the range goes on: `taken` entries stand in the buffer, the page shows a leaf, and so many leaves may follow
  pub record Going (start : Came) (n : ℕ) (m : Meaning) (page buffer : List ℕ) (taken fuel : ℕ) : Type 0 where
    pub out : List (K × ℕ)
    pub d : Node K
    pub leaf : Leaf κ n order page d
    pub number : taken ≡ length out
    pub filled : buffer ≡ overlaid buf 0 (write_entries κ out)
    pub going : start ≡ run m (follow κ lo hi (length buf / (κ.width + 4) - taken) out d (chase κ n order lo hi fuel))

  pub begins : (n : ℕ) (m : Meaning) (page : List ℕ) (d : Node K) (fuel : ℕ) → Leaf κ n order page d
      → Going (run m (follow κ lo hi (length buf / (κ.width + 4)) [] d (chase κ n order lo hi fuel))) n m page buf 0 fuel
  unfolding write_entries
  begins n m page d fuel l =
      let e : length buf / (κ.width + 4) - 0 ≡ length buf / (κ.width + 4) = omega arith in
      record { out = []; d = d; leaf = l; number = refl; filled = refl; going = ap (λ (c : ℕ). run m (follow κ lo hi c [] d (chase κ n order lo hi fuel))) (sym e) }

  module _ (L : Lawful κ) (start : Came) (n : ℕ) (m : Meaning) (page buffer : List ℕ) (taken fuel : ℕ) (G : Going start n m page buffer taken fuel)
      (same : length buffer ≡ length buf) (fits : taken * (κ.width + 4) ≤ length buf)
      (r : ℕ × Option Bool) (buffer' : List ℕ) (A : Gathered κ lo hi G.d taken buffer r buffer') where
    abbrev cap : ℕ
    cap = length buf / (κ.width + 4) - taken

    abbrev s : Scan K
    s = scan κ lo hi cap G.d.entries

    abbrev out' : List (K × ℕ)
    out' = G.out ++ s.taken

    into : scan_into κ lo hi G.d taken buffer ≡ s
    into = ap (λ (x : ℕ). scan κ lo hi (x / (κ.width + 4) - taken) G.d.entries) same

    pub number' : r.0 ≡ length out'
    number' =
        let a = A.number in
        let i = ap (λ (x : Scan K). length x.taken) into in
        let l = length-append G.out s.taken in
        let g = G.number in
        omega arith

    -- what was taken had room
    room : taken * (κ.width + 4) + length s.taken * (κ.width + 4) ≤ length buf
    room =
        let e = κ.width + 4 in
        let q = length buf / e in
        let w = length s.taken in
        let most = scan_most κ lo hi cap G.d.entries in
        let whole = div-add-mod' (length buf) e in
        ⊎_elim
        (λ (h : q < taken). let z : w ≡ 0 = omega arith in let k : w * e ≡ 0 = ap (λ (x : ℕ). x * e) z ∙ zero-mul e in omega arith)
        (λ (h : taken ≤ q). let k = mul-le (taken + w) e q e (omega arith) (omega arith) in let a = add-mul taken w e in omega arith)
        (cases_lt q taken)

    pub filled' : buffer' ≡ overlaid buf 0 (write_entries κ out')
    filled' =
        let at = taken * (κ.width + 4) in
        let here : at ≡ length (write_entries κ G.out) = ap (λ (x : ℕ). x * (κ.width + 4)) G.number ∙ sym (entries_length κ L G.out) in
        let long = entries_length κ L s.taken in
        let fit : at + length (write_entries κ s.taken) ≤ length buf = omega (arith, room) in
        A.filled
        ∙ (ap (λ (x : Scan K). overlaid buffer at (write_entries κ x.taken)) into
        ∙ (ap (λ (x : List ℕ). overlaid x at (write_entries κ s.taken)) G.filled
        ∙ (overlaid_twice buf (write_entries κ G.out) (write_entries κ s.taken) at here fit
        ∙ ap (λ (x : List ℕ). overlaid buf 0 x) (sym (entries_append κ G.out s.taken)))))

    abbrev rest : ℕ → List (K × ℕ) → ℕ → Plan (List (K × ℕ)) (List (K × ℕ) × Bool)
    rest = chase κ n order lo hi fuel

    end_is : (o : Option Bool) → r.1 ≡ o → s.end ≡ o
    end_is o e = ap (λ (x : Scan K). x.end) (sym into) ∙ (sym A.end ∙ e)

    turned : (o : Option Bool) → r.1 ≡ o → start ≡ run m (after_leaf κ G.out s G.d.link rest o)
    turned o e = G.going ∙ ap (λ (x : Option Bool). run m (after_leaf κ G.out s G.d.link rest x)) (end_is o e)

    at_end : (r' : Result (ℕ × Bool) RangeRefusal) (after : Meaning) → entries_of r' ≡ r.0 → start ≡ (ended out' r', after) → RangeEnd κ buf r' buffer' after start
    at_end r' after q e = record { out = out'; number = q ∙ number'; filled = filled'; came = e }

    -- a refusal with the entries of the leaves before it
    abbrev pub here : Refusal → RangeRefusal
    here why = record { refusal = why; entries = r.0 }

    link_is : (l : ℕ) → l ≡ u32_at 4 page → G.d.link ≡ l
    link_is l e = (seen_right κ n order true G.leaf.low page G.d G.leaf.seen).link ∙ sym e

    -- the range ends in this leaf
    pub ends_here : (more : Bool) → r.1 ≡ Some more → RangeEnd κ buf (Ok (r.0, more)) buffer' m start
    unfolding run
    ends_here more e = at_end (Ok (r.0, more)) m refl (turned (Some more) e)

    -- there is no leaf after it
    pub ends_last : r.1 ≡ None → (l : ℕ) → l ≡ u32_at 4 page → l ≡ 0 → RangeEnd κ buf (Ok (r.0, false)) buffer' m start
    unfolding run
    ends_last e l k z =
        let t : eqb G.d.link 0 ≡ true = eq-eqb G.d.link 0 (link_is l k ∙ z) in
        at_end (Ok (r.0, false)) m refl (turned None e ∙ ap (λ (b : Bool). run m (cond b (done (out', false)) (rest s.left out' G.d.link))) t)

    goes_on : r.1 ≡ None → (l : ℕ) → l ≡ u32_at 4 page → (l ≡ 0 → ⊥) → start ≡ run m (rest s.left out' l)
    goes_on e l k z =
        let i = link_is l k in
        let t : eqb G.d.link 0 ≡ false = ne_eqb G.d.link 0 (λ q. z (sym i ∙ q)) in
        turned None e
        ∙ (ap (λ (b : Bool). run m (cond b (done (out', false)) (rest s.left out' G.d.link))) t ∙ ap (λ (x : ℕ). run m (rest s.left out' x)) i)

    -- more leaves than there can be
    pub goes_round : r.1 ≡ None → (l : ℕ) → l ≡ u32_at 4 page → (l ≡ 0 → ⊥) → fuel ≡ 0 → RangeEnd κ buf (Err (here (Broken Chain l))) buffer' m start
    unfolding run
    goes_round e l k z f =
        at_end (Err (here (Broken Chain l))) m refl (goes_on e l k z ∙ ap (λ (x : ℕ). run m (chase κ n order lo hi x s.left out' l)) f)

    chase_is : (f : ℕ) → f ≡ suc (fuel - 1) → (l : ℕ)
        → chase κ n order lo hi f s.left out' l ≡ with_node κ n out' order true (least order false true) l (λ d. follow κ lo hi s.left out' d (chase κ n order lo hi (fuel - 1)))
    chase_is f e l = ap (λ (x : ℕ). chase κ n order lo hi x s.left out' l) e

    -- the next leaf is read
    module _ (e : r.1 ≡ None) (l : ℕ) (k : l ≡ u32_at 4 page) (z : l ≡ 0 → ⊥) (f : 0 < fuel) (count : n ≡ m.count)
        (page' : List ℕ) (after : Meaning) (answer : Result Unit Refusal) (R : Reading κ true m false order l page page' after answer) where
      abbrev next : Node K → Plan (List (K × ℕ)) (List (K × ℕ) × Bool)
      next d = follow κ lo hi s.left out' d (chase κ n order lo hi (fuel - 1))

      reads : start ≡ run m (with_node κ m.count out' order true (least order false true) l next)
      reads =
          goes_on e l k z ∙ (ap (run m) (chase_is fuel (omega arith) l) ∙ ap (λ (x : ℕ). run m (with_node κ x out' order true (least order false true) l next)) count)

      pub next_stops : (why : Refusal) → Err why ≡ answer → RangeEnd κ buf (Err (here why)) buffer' after start
      next_stops why o = at_end (Err (here why)) after refl (reads ∙ stops κ m false true order l page page' after R.filled R.tallies out' next why (o ∙ R.answer))

      pub next_goes : Ok tt ≡ answer → Going start n after page' buffer' r.0 (fuel - 1)
      next_goes o =
          let w = went_on κ m false true order l page page' after R.filled R.tallies out' next (o ∙ R.answer) in
          let c : s.left ≡ length buf / (κ.width + 4) - r.0 = (let a = scan_left κ lo hi cap G.d.entries in let b = number' in let d = length-append G.out s.taken in let g = G.number in omega arith) in
          record {
            out = out';
            d = w.0;
            leaf = record { low = least order false true; seen = ap (λ (x : ℕ). see_node κ x order true (least order false true) page') count ∙ w.1 };
            number = number';
            filled = filled';
            going = reads ∙ (w.2 ∙ ap (λ (x : ℕ). run after (follow κ lo hi x out' w.0 (chase κ n order lo hi (fuel - 1)))) c);
          }
