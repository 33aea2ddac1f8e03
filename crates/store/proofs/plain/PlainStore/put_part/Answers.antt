use Rattle.std.proofs.Common.{refl, arith}
use Rattle.store.specs.Blocks.{blocks_overlaid}
use Rattle.store.proofs.Meanings.{same_meaning}
use Rattle.store.proofs.Views.{patched_items}
use Rattle.store.proofs.plain.PlainStore.put_part.Goals as goal

pub returns : goal.returns
returns c =
    let s = c.args.self.now in
    let e = patched_items s c.args.block c.args.at _ c.args.part.now _ c.requires.0 c.requires.1 c.deref_mut.ensures.value c.overlay.ensures in
    same_meaning _ _ refl refl (blocks_overlaid s.count s.size c.args.block c.args.at s.bytes.items c.args.part.now _ c.requires.0 (omega arith) c.requires.1 e) (λ k. refl) refl
