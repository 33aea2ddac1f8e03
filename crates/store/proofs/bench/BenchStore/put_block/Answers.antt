use Rattle.std.proofs.Common.{refl, arith}
use Rattle.std.proofs.lemmas.Bool.Decides.{nat_tests}
use Rattle.store.specs.Blocks.{blocks_written}
use Rattle.store.proofs.Meanings.{same_meaning}
use Rattle.store.proofs.bench.BenchStore.put_block.Goals as goal

pub returns : goal.returns
returns c =
    let s = c.args.self.now in
    let w = blocks_written 64 128 c.args.block s.blocks.bytes c.args.bytes.now _ c.requires.0 (omega (arith, s.whole)) c.requires.1 c.overlay.ensures in
    same_meaning _ _ refl refl w (λ k. grind (arith, nat_tests)) refl
