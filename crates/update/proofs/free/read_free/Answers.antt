use Rattle.std.proofs.Common.{◌≡◌, ℕ, List, Some, None, Ok, Option, ◌∙◌, arith}
use Rattle.store.specs.declared.fault.Fault.{Fault}
use Rattle.store.specs.Calls.{answered, unless}
use Rattle.tree.specs.Nodes.{see_free}
use Rattle.update.specs.Frees.{free_answer}
use Rattle.update.proofs.free.read_free.Goals as goal

-- what was read is what the block holds
seen : (o : Option Fault) (b n n' : ℕ) (old page bs : List ℕ) → Ok tt ≡ answered o → page ≡ unless o bs old → n ≡ n' → free_answer None b (see_free n page) ≡ free_answer o b (see_free n' bs)
seen None b n n' old page bs a p q = rw (p, q)
seen (Some f) b n n' old page bs a p q = absurd (let z : ◌≡◌ {A = ℕ} 0 1 = cc in omega arith)

pub returns-clause-answer : goal.returns-clause-answer
returns-clause-answer g c =
    let h = c.in_ok-read.ensures in
    let s = c.requires.0 in
    c.examine_free.ensures ∙ seen _ c.args.block c.count-count.result _ c.args.page.now c.read.new.buffer _ (rw s at h.answer) (rw s at h.filled) c.count-count.ensures
