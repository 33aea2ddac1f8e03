use Rattle.std.proofs.Common.{◌≡◌, ◌∙◌, arith, rules, tests}
use Rattle.std.specs.Option.{option_map}
use Rattle.update.proofs.Growing.{leaf_split}
use Rattle.update.proofs.grow.grow_leaf.Goals as goal

pub returns-clause-grown : goal.returns-clause-grown
returns-clause-grown g c n es r l z =
    let v = c.next-new.ensures.value in
    let up : c.map.result ≡ option_map (λ k. (k, c.next-new.result)) c.read.result = search (rules, tests) in
    leaf_split g.met.K.Key.lawful n c.args.shape.now.size c.args.shape.now.order c.args.block c.args.link c.args.growth.now.spare c.next-new.ensures.after c.split_at.ensures.front c.split_at.ensures.back (up ∙ rw (v, c.read.ensures, c.key_width.ensures)) es (omega arith) c.args.shape.now.least r
    (c.push_node-3.ensures.pushed ∙ rw (c.push_node-2.ensures.pushed, c.leaf-2.ensures, c.leaf-3.ensures, c.split_at.ensures.front_count, c.split_at.ensures.back_count, z, v, l))
