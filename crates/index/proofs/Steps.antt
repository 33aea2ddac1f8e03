-- The steps of a walk, run.
use Rattle.std.proofs.Common.{◌≡◌, ℕ, zero, suc, ◌+◌, ◌-◌, ◌*◌, ◌/◌, ◌<◌, ◌≤◌, Bool, true, false, cond, ◌&&◌, ltb, leb, List, length, get_or, drop, Some, None, Ok, Err, Option, Result, sym, refl, ap, ◌∙◌, arith}
use Rattle.std.proofs.lemmas.Nat.{mul-le, div-add-mod'}
use Rattle.std.proofs.lemmas.Bool.{leb-true, and_parts}
use Rattle.index.specs.Readings.{Reading, head_answer, node_answer}
use Rattle.keys.specs.Kind.{Kind, Lawful}
use Rattle.page.specs.Rows.{kid_at, record_at}
use Rattle.page.proofs.HeadSeen.{rule_1_kept}
use Rattle.page.proofs.Seen.{count_fits, kid_is, record_is, seen_right}
use Rattle.store.specs.declared.fault.Fault.{Fault}
use Rattle.store.specs.Calls.{refusal, unless}
use Rattle.store.specs.Meaning.{Meaning, tallied}
use Rattle.tree.specs.declared.head.Head.{Head}
use Rattle.tree.specs.declared.refusal.Refusal.{Refusal}
use Rattle.tree.specs.declared.refusal.Refusal.TheVariants.{Broken, Unfit, Unreadable}
use Rattle.index.specs.Leaves.{Leaf, Reached, continued, leaf_from}
use Rattle.tree.specs.Calls.{find_below, find_from}
use Rattle.tree.specs.Entries.{lookup, part}
use Rattle.tree.specs.Fields.{u32_at, within}
use Rattle.tree.specs.Heads.{order_fits, see_head}
use Rattle.tree.specs.Nodes.{Node, Seen, is_block, least, see_node}
use Rattle.tree.specs.Nodes.Seen.{wrong, right}
use Rattle.tree.specs.Plans.{Outcome, Plan, bare, on_read, run}
use Rattle.tree.specs.Plans.Plan.{done, refuse}
use Rattle.tree.specs.Walks.{is_fit, last_kid, on_head, on_seen, walk, when_fit, with_head, with_node}

pub node_right : {D : Type 0} (o : Option Fault) (b : ℕ) (s : Seen D) → Ok tt ≡ node_answer o b s → (d : D) × (s ≡ right d) × (o ≡ None)
node_right None b (wrong r) h = absurd (let z : ◌≡◌ {A = ℕ} 0 1 = cc in omega arith)
node_right None b (right d) h = (d, refl, refl)
node_right (Some f) b s h = absurd (let z : ◌≡◌ {A = ℕ} 0 1 = cc in omega arith)

module _ {K : Type 0} (κ : Kind K) (m : Meaning) (top leaf : Bool) (M b : ℕ) (old new : List ℕ) (after : Meaning)
    (filled : new ≡ unless (refusal m b m.size) (m.contents b) old) (tallies : after ≡ tallied m) where
  abbrev seen : Seen (Node K)
  seen = see_node κ m.count M leaf (least M top leaf) (m.contents b)

  went_by : {P A : Type 0} (p : P) (go : Node K → Plan P A) (d : Node K) → refusal m b m.size ≡ None → seen ≡ right d → run m (with_node κ m.count p M leaf (least M top leaf) b go) ≡ run after (go d)
  unfolding run
  went_by p go d o s = rw (o, s, tallies)

  -- a node that was read and is right
  pub went_on : {P A : Type 0} (p : P) (go : Node K → Plan P A) → Ok tt ≡ node_answer (refusal m b m.size) b seen
      → (d : Node K) × (see_node κ m.count M leaf (least M top leaf) new ≡ right d) × (run m (with_node κ m.count p M leaf (least M top leaf) b go) ≡ run after (go d))
  went_on p go h =
      let r = node_right (refusal m b m.size) b seen h in
      let q : new ≡ m.contents b = filled ∙ ap (λ (o : Option Fault). unless o (m.contents b) old) r.2 in
      (r.0, ap (see_node κ m.count M leaf (least M top leaf)) q ∙ r.1, went_by p go r.0 r.2 r.1)

  -- and one that was refused
  pub stops : {P A : Type 0} (p : P) (go : Node K → Plan P A) (e : Refusal) → Err e ≡ node_answer (refusal m b m.size) b seen
      → run m (with_node κ m.count p M leaf (least M top leaf) b go) ≡ (Err (record { left = p; why = e }), after)
  unfolding run
  stops {P} {A} p go e h = by (refusal m b m.size) seen h
    where
      by : (o : Option Fault) (s : Seen (Node K)) → Err e ≡ node_answer o b s → on_read o p m (run (tallied m) (on_seen p b go s)) ≡ (Err (record { left = p; why = e }), after)
      by None (wrong r) h = let q : e ≡ Broken r b = cc in rw (q, tallies)
      by None (right d) h = absurd (let z : ◌≡◌ {A = ℕ} 0 1 = cc in omega arith)
      by (Some f) s h = let q : e ≡ Unreadable f = cc in rw (q, tallies)

  -- its entries have room
  pub has_room : (w : ℕ) → 8 + M * w ≤ m.size → length new ≡ m.size → Ok tt ≡ node_answer (refusal m b m.size) b seen → 8 + get_or new 1 0 * w ≤ length new
  has_room w f l h =
      let r = went_on {P = Unit {0}} {A = Unit {0}} tt (λ d. done tt) h in
      count_fits (least M top leaf) (get_or new 1 0) M w (length new) (seen_right κ m.count M leaf (least M top leaf) new r.0 r.1).count (omega arith)

module _ {K : Type 0} (κ : Kind K) (n M : ℕ) (k : K) (top : Bool) (b : ℕ) where
  abbrev pub next : ℕ → Node K → Plan Unit (Node K)
  next h d = leaf_from κ n M k h false (last_kid d.link (part κ k d.entries).low)

  walk_inner : (h : ℕ) → 0 < h → leaf_from κ n M k h top b ≡ with_node κ n tt M false (least M top false) b (next (h - 1))
  unfolding walk
  walk_inner zero l = absurd (omega arith)
  walk_inner (suc h) l = let e : h ≡ suc h - 1 = omega arith in ap (λ (x : ℕ). with_node κ n tt M false (least M top false) b (next x)) e

  walk_leaf : (h : ℕ) → h ≡ 0 → leaf_from κ n M k h top b ≡ with_node κ n tt M true (least M top true) b (λ d. done d)
  unfolding walk
  walk_leaf zero l = refl
  walk_leaf (suc h) l = absurd (omega arith)

module _ {K : Type 0} (κ : Kind K) (leaf : Bool) (m : Meaning) (top : Bool) (M b : ℕ) (old new : List ℕ) (after : Meaning) (r : Result Unit Refusal) (R : Reading κ leaf m top M b old new after r) where
  answer_is : r ≡ node_answer (refusal m b m.size) b (see_node κ m.count M leaf (least M top leaf) (m.contents b))
  answer_is = R.answer

  pub roomy : (w : ℕ) → 8 + M * w ≤ m.size → length new ≡ m.size → Ok tt ≡ r → 8 + get_or new 1 0 * w ≤ length new
  roomy w f l h = has_room κ m top leaf M b old new after R.filled R.tallies w f l (h ∙ answer_is)

module _ {K : Type 0} (κ : Kind K) (k : K) (m : Meaning) (top : Bool) (M b : ℕ) (old new : List ℕ) (after : Meaning) (r : Result Unit Refusal) (h : ℕ) where
  pub inner_step : Reading κ false m top M b old new after r → 0 < h → Ok tt ≡ r → (c : ℕ) → c ≡ kid_at κ k (u32_at 4 new) (get_or new 1 0) (drop 8 new)
      → run m (leaf_from κ m.count M k h top b) ≡ run after (leaf_from κ after.count M k (h - 1) false c)
  inner_step R l o c e =
      let w = went_on κ m top false M b old new after R.filled R.tallies tt (next κ m.count M k top b (h - 1)) (o ∙ answer_is κ false m top M b old new after r R) in
      ap (run m) (walk_inner κ m.count M k top b h l) ∙ (w.2
      ∙ (ap (λ (x : ℕ). run after (leaf_from κ x M k (h - 1) false (last_kid w.0.link (part κ k w.0.entries).low))) (sym (ap (λ (x : Meaning). x.count) R.tallies))
      ∙ ap (λ (x : ℕ). run after (leaf_from κ after.count M k (h - 1) false x)) (sym (kid_is κ k m.count M false (least M top false) new w.0 w.1) ∙ sym e)))

  pub inner_stop : Reading κ false m top M b old new after r → 0 < h → (e : Refusal) → Err e ≡ r → run m (leaf_from κ m.count M k h top b) ≡ (bare (Err e), after)
  inner_stop R l e o =
      ap (run m) (walk_inner κ m.count M k top b h l)
      ∙ stops κ m top false M b old new after R.filled R.tallies tt (next κ m.count M k top b (h - 1)) e (o ∙ answer_is κ false m top M b old new after r R)

  pub leaf_step : Reading κ true m top M b old new after r → h ≡ 0 → Ok tt ≡ r
      → (d : Node K) × (run m (leaf_from κ m.count M k h top b) ≡ (Ok d, after)) × (see_node κ m.count M true (least M top true) new ≡ right d)
  unfolding run
  leaf_step R l o =
      let w = went_on κ m top true M b old new after R.filled R.tallies tt (λ d. done d) (o ∙ answer_is κ true m top M b old new after r R) in
      (w.0, ap (run m) (walk_leaf κ m.count M k top b h l) ∙ w.2, w.1)

  pub leaf_stop : Reading κ true m top M b old new after r → h ≡ 0 → (e : Refusal) → Err e ≡ r → run m (leaf_from κ m.count M k h top b) ≡ (bare (Err e), after)
  leaf_stop R l e o =
      ap (run m) (walk_leaf κ m.count M k top b h l)
      ∙ stops κ m top true M b old new after R.filled R.tallies tt (λ d. done d) e (o ∙ answer_is κ true m top M b old new after r R)

  -- the leaf at the end of a walk
  pub leaf_reached : (m₀ : Meaning) (h₀ root : ℕ) → run m₀ (leaf_from κ m₀.count M k h₀ true root) ≡ run m (leaf_from κ m.count M k h top b) → m.count ≡ m₀.count
      → Reading κ true m top M b old new after r → h ≡ 0 → Reached κ m₀ M k h₀ root r new after
  leaf_reached m₀ h₀ root s n R l = by r refl
    where
      by : (x : Result Unit Refusal) → x ≡ r → Reached κ m₀ M k h₀ root x new after
      by (Ok u) e =
          let w = leaf_step R l e in
          (w.0, s ∙ w.1, record { low = least M top true; seen = ap (λ (x : ℕ). see_node κ x M true (least M top true) new) (sym n) ∙ w.2 })
      by (Err x) e = s ∙ leaf_stop R l x e

module _ {K : Type 0} (κ : Kind K) (m after : Meaning) (tallies : after ≡ tallied m) where
  abbrev top_of : Result Head Refusal
  top_of = see_head κ m.count m.size (m.contents 0)

  -- a head that was refused
  pub head_stop : {P A : Type 0} (p : P) (go : Head → Plan P A) (e : Refusal) → Err e ≡ head_answer (refusal m 0 m.size) top_of
      → run m (with_head κ m.count m.size p go) ≡ (Err (record { left = p; why = e }), after)
  unfolding run
  head_stop p go e h = by (refusal m 0 m.size) top_of h
    where
      by : (o : Option Fault) (s : Result Head Refusal) → Err e ≡ head_answer o s → on_read o p m (run (tallied m) (on_head p go s)) ≡ (Err (record { left = p; why = e }), after)
      by None (Ok d) h = absurd (let z : ◌≡◌ {A = ℕ} 0 1 = cc in omega arith)
      by None (Err r) h = let q : e ≡ r = cc in rw (q, tallies)
      by (Some f) s h = let q : e ≡ Unreadable f = cc in rw (q, tallies)

  -- and one that was read
  pub head_step : {P A : Type 0} (p : P) (go : Head → Plan P A) (d : Head) → Ok d ≡ head_answer (refusal m 0 m.size) top_of
      → run m (with_head κ m.count m.size p go) ≡ run after (go d)
  unfolding run
  head_step p go d h = by (refusal m 0 m.size) top_of h
    where
      by : (o : Option Fault) (s : Result Head Refusal) → Ok d ≡ head_answer o s → on_read o p m (run (tallied m) (on_head p go s)) ≡ run after (go d)
      by None (Ok x) h = let q : x ≡ d = cc in rw (q, tallies)
      by None (Err r) h = absurd (let z : ◌≡◌ {A = ℕ} 0 1 = cc in omega arith)
      by (Some f) s h = absurd (let z : ◌≡◌ {A = ℕ} 0 1 = cc in omega arith)

  pub find_step : (k : K) (d : Head) → Ok d ≡ head_answer (refusal m 0 m.size) top_of
      → run m (with_head κ m.count m.size tt (find_below κ m.count m.size k)) ≡ run after (find_below κ after.count after.size k d)
  find_step k d h =
      head_step tt (find_below κ m.count m.size k) d h
      ∙ ap (λ (x : ℕ). run after (find_from κ x d.order k (d.levels - 1) true d.root)) (sym (ap (λ (x : Meaning). x.count) tallies))

  pub count_step : (d : Head) → Ok d ≡ head_answer (refusal m 0 m.size) top_of
      → run m (with_head κ m.count m.size tt (λ h. done h.key_count)) ≡ (bare (Ok d.key_count), after)
  unfolding run
  count_step d h = head_step tt (λ h. done h.key_count) d h

  -- a head that keeps rule 1 has room for m entries, and a level
  pub head_room : (d : Head) → 64 ≤ m.size → Ok d ≡ head_answer (refusal m 0 m.size) top_of → (8 + d.order * (κ.width + 4) ≤ m.size) × (1 ≤ d.levels)
  head_room d l h = by (refusal m 0 m.size) h
    where
      by : (o : Option Fault) → Ok d ≡ head_answer o top_of → (8 + d.order * (κ.width + 4) ≤ m.size) × (1 ≤ d.levels)
      by None h =
          let r = rule_1_kept κ m.count m.size (m.contents 0) d (sym h) in
          let most = (m.size - 8) / (κ.width + 4) in
          let a = and_parts (order_fits κ m.size d.order) (within 1 10 d.levels && (is_block m.count d.root && ltb d.first_free m.count)) r in
          let b = and_parts (leb 3 d.order) (leb d.order most) a.0 in
          let c = and_parts (within 1 10 d.levels) (is_block m.count d.root && ltb d.first_free m.count) a.1 in
          let e = and_parts (leb 1 d.levels) (leb d.levels 10) c.0 in
          let u = leb-true d.order most b.1 in
          let v = leb-true 1 d.levels e.0 in
          (omega (arith, mul-le d.order (κ.width + 4) ((m.size - 8) / (κ.width + 4)) (κ.width + 4) u (omega arith), div-add-mod' (m.size - 8) (κ.width + 4)), v)
      by (Some f) h = absurd (let z : ◌≡◌ {A = ℕ} 0 1 = cc in omega arith)

-- a store that has no room for an index
pub unfit : {P A : Type 0} (p : P) (go : Plan P A) (m : Meaning) (n size : ℕ) → n ≡ m.count → size ≡ m.size → false ≡ is_fit n size
    → run m (when_fit m.count m.size p go) ≡ (Err (record { left = p; why = Unfit }), m)
unfolding run
unfit p go m n size en es h =
    let e : is_fit m.count m.size ≡ false = ap (λ (x : ℕ). is_fit x m.size) (sym en) ∙ (ap (λ (x : ℕ). is_fit n x) (sym es) ∙ sym h) in
    ap (λ (b : Bool). run m (cond b go (refuse p Unfit))) e

-- A walk that goes on with the leaf alone is the walk to that leaf, and then what comes after.
module _ {K : Type 0} (κ : Kind K) (n M : ℕ) (k : K) {P A : Type 0} (p : P) (go : Node K → Plan P A) where
  pub walk_then : (h : ℕ) (top : Bool) (b : ℕ) (m : Meaning)
      → run m (walk κ n p M k h top b (λ f. go f.node)) ≡ continued p go (run m (leaf_from κ n M k h top b))
  unfolding run walk
  walk_then zero top b m = by (refusal m b m.size) (see_node κ n M true (least M top true) (m.contents b))
    where
      by : (o : Option Fault) (s : Seen (Node K)) → on_read o p m (run (tallied m) (on_seen p b go s)) ≡ continued p go (on_read o tt m (run (tallied m) (on_seen tt b (λ d. done d) s)))
      by None (wrong r) = refl
      by None (right d) = refl
      by (Some f) s = refl
  walk_then (suc h) top b m = by (refusal m b m.size) (see_node κ n M false (least M top false) (m.contents b)) (λ d. walk_then h false (last_kid d.link (part κ k d.entries).low) (tallied m))
    where
      by : (o : Option Fault) (s : Seen (Node K))
          → ((d : Node K) → run (tallied m) (walk κ n p M k h false (last_kid d.link (part κ k d.entries).low) (λ f. go f.node)) ≡ continued p go (run (tallied m) (leaf_from κ n M k h false (last_kid d.link (part κ k d.entries).low))))
          → on_read o p m (run (tallied m) (on_seen p b (λ d. walk κ n p M k h false (last_kid d.link (part κ k d.entries).low) (λ f. go f.node)) s))
          ≡ continued p go (on_read o tt m (run (tallied m) (on_seen tt b (λ d. leaf_from κ n M k h false (last_kid d.link (part κ k d.entries).low)) s)))
      by None (wrong r) i = refl
      by None (right d) i = i d
      by (Some f) s i = refl

-- What a page that shows a leaf has room for.
pub leaf_room : {K : Type 0} (κ : Kind K) (n M size : ℕ) (page : List ℕ) (d : Node K) → Leaf κ n M page d → 8 + M * (κ.width + 4) ≤ size → length page ≡ size
    → 8 + get_or page 1 0 * (κ.width + 4) ≤ length page
leaf_room κ n M size page d l f e =
    count_fits l.low (get_or page 1 0) M (κ.width + 4) (length page) (seen_right κ n M true l.low page d l.seen).count (omega arith)

-- A find that reached its leaf, and one that did not.
module _ {K : Type 0} (κ : Kind K) (L : Lawful κ) (m after : Meaning) (M : ℕ) (k : K) (h root : ℕ) (page : List ℕ) where
  pub find_reached : Reached κ m M k h root (Ok tt) page after → (c : Option ℕ) → c ≡ record_at κ k (get_or page 1 0) (drop 8 page)
      → run m (find_from κ m.count M k h true root) ≡ (bare (Ok c), after)
  unfolding run
  find_reached r c e =
      let go : Node K → Plan Unit (Option ℕ) = λ d. done (lookup κ k d.entries) in
      walk_then κ m.count M k tt go h true root m
      ∙ (ap (λ (o : Outcome Unit (Node K)). continued tt go o) r.1
      ∙ ap (λ (x : Option ℕ). (bare (Ok x), after)) (sym (record_is κ L k m.count M true r.2.low page r.0 r.2.seen) ∙ sym e))

  pub find_stopped : (e : Refusal) → Reached κ m M k h root (Err e) page after → run m (find_from κ m.count M k h true root) ≡ (bare (Err e), after)
  find_stopped e r =
      let go : Node K → Plan Unit (Option ℕ) = λ d. done (lookup κ k d.entries) in
      walk_then κ m.count M k tt go h true root m ∙ ap (λ (o : Outcome Unit (Node K)). continued tt go o) r
