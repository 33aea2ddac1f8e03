-- A head that is seen keeps rule 1.
use Rattle.std.proofs.Common.{◌≡◌, ℕ, Bool, true, false, cond, eqb, List, get_or, Ok, Err, refl, ap, ◌∙◌, arith}
use Rattle.keys.specs.Kind.{Kind}
use Rattle.tree.specs.declared.rule.Rule.TheVariants.{HeadNumbers}
use Rattle.tree.specs.declared.head.Head.{Head}
use Rattle.tree.specs.declared.refusal.Refusal.TheVariants.{Broken, NoLetters, OtherVersion, OtherKind}
use Rattle.tree.specs.Heads.{has_letters, has_version, head_of, rule_1, see_head}

pub rule_1_kept : {K : Type 0} (κ : Kind K) (n size : ℕ) (bs : List ℕ) (d : Head) → see_head κ n size bs ≡ Ok d → rule_1 κ n size d ≡ true
unfolding see_head
rule_1_kept κ n size bs d h = by (has_letters bs) (has_version bs) (eqb (get_or bs 5 0) κ.code) (rule_1 κ n size (head_of bs)) refl h
  where
    by : (p q r t : Bool) → rule_1 κ n size (head_of bs) ≡ t → cond p (cond q (cond r (cond t (Ok (head_of bs)) (Err (Broken HeadNumbers 0))) (Err OtherKind)) (Err OtherVersion)) (Err NoLetters) ≡ Ok d → rule_1 κ n size d ≡ true
    by false q r t e h = absurd (let z : ◌≡◌ {A = ℕ} 0 1 = cc in omega arith)
    by true false r t e h = absurd (let z : ◌≡◌ {A = ℕ} 0 1 = cc in omega arith)
    by true true false t e h = absurd (let z : ◌≡◌ {A = ℕ} 0 1 = cc in omega arith)
    by true true true false e h = absurd (let z : ◌≡◌ {A = ℕ} 0 1 = cc in omega arith)
    by true true true true e h = let p : d ≡ head_of bs = cc in ap (rule_1 κ n size) p ∙ e
