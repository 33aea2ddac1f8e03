-- A walk over blocks that show a tree: it reads the tree's way to the leaf, and goes on with that.
use Rattle.std.proofs.Common.{◌≡◌, ℕ, zero, suc, Bool, true, false, cond, eqb, List, [], ◌∷◌, ◌++◌, map, length, Ok, Err, Result, refl, ap, ◌∙◌, arith}
use Rattle.std.proofs.lemmas.Bool.{cond_both}
use Rattle.std.specs.List.{AllByRecursion}
use Rattle.keys.specs.Kind.{Kind}
use Rattle.tree.specs.declared.head.Head.{Head}
use Rattle.tree.specs.declared.rule.Rule.TheVariants.{HeadNumbers}
use Rattle.tree.specs.declared.refusal.Refusal.{Refusal}
use Rattle.tree.specs.declared.refusal.Refusal.TheVariants.{Broken, NoLetters, OtherKind, OtherVersion, Unfit}
use Rattle.tree.specs.Entries.{part}
use Rattle.tree.specs.Fields.{u8_at}
use Rattle.tree.specs.Heads.{has_letters, has_version, head_of, rule_1, see_head}
use Rattle.tree.specs.Laws.{Unreadably, answer}
use Rattle.tree.specs.Nodes.{Node, Seen, least, see_node}
use Rattle.tree.specs.Nodes.Seen.{right, wrong}
use Rattle.tree.specs.Plans.{Plan, Stop, reading}
use Rattle.tree.specs.Plans.Plan.{done, refuse}
use Rattle.tree.specs.Refusals.{numbered}
use Rattle.tree.specs.Trees.{Shows, Tree, block_of, kid_for, node_of, trail}
use Rattle.tree.specs.Walks.{Found, last_kid, is_fit, on_head, on_seen, walk, when_fit, with_head, with_node}

module _ {K : Type 0} (κ : Kind K) where
  -- what the walk finds
  abbrev pub found_in : (h : ℕ) → K → Tree K h → Found K
  found_in zero k t = record { path = []; leaf = t.block; node = node_of K zero t }
  found_in (suc h) k t =
      let q = part κ k (node_of K (suc h) t).entries in
      let f = found_in h k (kid_for κ k t.first t.rest) in
      record { path = record { block = t.block; link = (node_of K (suc h) t).link; before = q.low; behind = q.high } ∷ f.path; leaf = f.leaf; node = f.node }

  pub trail_length : (h : ℕ) (k : K) (t : Tree K h) → length (trail κ h k t) ≡ suc h
  trail_length zero k t = refl
  trail_length (suc h) k t = ap suc (trail_length h k (kid_for κ k t.first t.rest))

  -- the child that the walk takes is the child for k
  kid_block : (h : ℕ) (k : K) (t : Tree K h) (ts : List (K × Tree K h))
      → last_kid (block_of K h t) (part κ k (map (λ x. (x.0, block_of K h x.1)) ts)).low ≡ block_of K h (kid_for κ k t ts)
  unfolding part
  kid_block h k t [] = refl
  kid_block h k t (x ∷ xs) = go (κ.less k x.0) refl (kid_block h k x.1 xs)
    where
      go : (b : Bool) → κ.less k x.0 ≡ b → last_kid (block_of K h x.1) (part κ k (map (λ x. (x.0, block_of K h x.1)) xs)).low ≡ block_of K h (kid_for κ k x.1 xs)
          → last_kid (block_of K h t) (part κ k (map (λ x. (x.0, block_of K h x.1)) (x ∷ xs))).low ≡ block_of K h (kid_for κ k t (x ∷ xs))
      go true e i = rw e
      go false e i = rw e i

module _ {K : Type 0} (κ : Kind K) (n m : ℕ) (c : ℕ → List ℕ) where
  kid_shows : (h : ℕ) (k : K) (t : Tree K h) (ts : List (K × Tree K h)) → Shows κ n m c h false t → AllByRecursion (λ x. Shows κ n m c h false x.1) ts → Shows κ n m c h false (kid_for κ k t ts)
  kid_shows h k t [] s a = s
  kid_shows h k t (x ∷ xs) s a =
      cond_both (κ.less k x.0) t (kid_for κ k x.1 xs) (λ (u : Tree K h). Shows κ n m c h false u) (λ _. s) (λ _. kid_shows h k x.1 xs a.0 a.1)

  pub walk_reads : {P A : Type 0} (p : P) (k : K) (h : ℕ) (top : Bool) (t : Tree K h) (go : Found K → Plan P A) → Shows κ n m c h top t
      → reading c (walk κ n p m k h top (block_of K h t) go) ≡ trail κ h k t ++ reading c (go (found_in κ h k t))
  unfolding reading walk
  walk_reads p k zero top t go s = rw s
  walk_reads p k (suc h) top t go s =
      rw s.0
      (rw (kid_block κ h k t.first t.rest)
      (ap (λ (z : List ℕ). t.block ∷ z) (walk_reads p k h false (kid_for κ k t.first t.rest) _ (kid_shows h k t.first t.rest s.1 s.2))))

  node_answers : {P A : Type 0} (p : P) (is_leaf : Bool) (low b : ℕ) (go : Node K → Plan P A) (d : Node K) → see_node κ n m is_leaf low (c b) ≡ right d
      → answer c (with_node κ n p m is_leaf low b go) ≡ answer c (go d)
  unfolding answer
  node_answers p is_leaf low b go d s = ap (λ (z : Seen (Node K)). answer c (on_seen p b go z)) s

  pub walk_answers : {P A : Type 0} (p : P) (k : K) (h : ℕ) (top : Bool) (t : Tree K h) (go : Found K → Plan P A) → Shows κ n m c h top t
      → answer c (walk κ n p m k h top (block_of K h t) go) ≡ answer c (go (found_in κ h k t))
  unfolding walk
  walk_answers p k zero top t go s = node_answers p true (least m top true) t.block _ (node_of K zero t) s
  walk_answers p k (suc h) top t go s =
      node_answers p false (least m top false) t.block _ (node_of K (suc h) t) s.0
      ∙ rw (kid_block κ h k t.first t.rest) (walk_answers p k h false (kid_for κ k t.first t.rest) _ (kid_shows h k t.first t.rest s.1 s.2))

-- ---- what looks at blocks does not answer by itself that one is unreadable
module _ {P A : Type 0} where
  abbrev number_of : Result A (Stop P) → ℕ
  number_of (Ok a) = 0
  number_of (Err s) = numbered s.why

  pub other : (p : P) (r : Refusal) → (numbered r ≡ 4 → ⊥) → Unreadably {P = P} {A = A} (Err (record { left = p; why = r })) → ⊥
  other p r o u = o (ap number_of u.2)

module _ {P A : Type 0} (c : ℕ → List ℕ) where
  pub seen_own : {D : Type 0} (p : P) (b : ℕ) (go : D → Plan P A) → ((d : D) → Unreadably (answer c (go d)) → ⊥) → (s : Seen D) → Unreadably (answer c (on_seen p b go s)) → ⊥
  unfolding answer
  seen_own p b go o (wrong r) u = other {A = A} p (Broken r b) (λ e. omega arith) u
  seen_own p b go o (right d) u = o d u

  pub walk_own : {K : Type 0} (κ : Kind K) (n : ℕ) (p : P) (m : ℕ) (k : K) (h : ℕ) (top : Bool) (b : ℕ) (go : Found K → Plan P A) → ((f : Found K) → Unreadably (answer c (go f)) → ⊥)
      → Unreadably (answer c (walk κ n p m k h top b go)) → ⊥
  unfolding answer walk
  walk_own κ n p m k zero top b go o u = seen_own p b _ (λ d v. o _ v) (see_node κ n m true (least m top true) (c b)) u
  walk_own κ n p m k (suc h) top b go o u = seen_own p b _ (λ d v. walk_own κ n p m k h false _ _ (λ f w. o _ w) v) (see_node κ n m false (least m top false) (c b)) u

  pub head_own : {K : Type 0} (κ : Kind K) (n size : ℕ) (p : P) (go : Head → Plan P A) → ((h : Head) → Unreadably (answer c (go h)) → ⊥)
      → Unreadably (answer c (when_fit n size p (with_head κ n size p go))) → ⊥
  unfolding answer see_head
  head_own κ n size p go o = by_fit (is_fit n size)
    where
      bs : List ℕ
      bs = c 0

      by_rule : (b : Bool) → Unreadably (answer c (on_head p go (cond b (Ok (head_of bs)) (Err (Broken HeadNumbers 0))))) → ⊥
      by_rule true u = o (head_of bs) u
      by_rule false u = other {A = A} p (Broken HeadNumbers 0) (λ e. omega arith) u

      by_code : (b : Bool) → Unreadably (answer c (on_head p go (cond b (cond (rule_1 κ n size (head_of bs)) (Ok (head_of bs)) (Err (Broken HeadNumbers 0))) (Err OtherKind)))) → ⊥
      by_code true u = by_rule (rule_1 κ n size (head_of bs)) u
      by_code false u = other {A = A} p OtherKind (λ e. omega arith) u

      by_version : (b : Bool) → Unreadably (answer c (on_head p go (cond b (cond (eqb (u8_at 5 bs) κ.code) (cond (rule_1 κ n size (head_of bs)) (Ok (head_of bs)) (Err (Broken HeadNumbers 0))) (Err OtherKind)) (Err OtherVersion)))) → ⊥
      by_version true u = by_code (eqb (u8_at 5 bs) κ.code) u
      by_version false u = other {A = A} p OtherVersion (λ e. omega arith) u

      by_letters : (b : Bool) → Unreadably (answer c (on_head p go (cond b (cond (has_version bs) (cond (eqb (u8_at 5 bs) κ.code) (cond (rule_1 κ n size (head_of bs)) (Ok (head_of bs)) (Err (Broken HeadNumbers 0))) (Err OtherKind)) (Err OtherVersion)) (Err NoLetters)))) → ⊥
      by_letters true u = by_version (has_version bs) u
      by_letters false u = other {A = A} p NoLetters (λ e. omega arith) u

      by_fit : (b : Bool) → Unreadably (answer c (cond b (with_head κ n size p go) (refuse p Unfit))) → ⊥
      by_fit true u = by_letters (has_letters bs) u
      by_fit false u = other {A = A} p Unfit (λ e. omega arith) u

  pub done_own : (a : A) → Unreadably {P = P} (answer c (done a)) → ⊥
  unfolding answer
  done_own a u = let e = u.2 in let z : ◌≡◌ {A = ℕ} 0 1 = cc in absurd (omega arith)
