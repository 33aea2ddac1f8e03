use Rattle.std.proofs.Common.{arith}
use Rattle.std.proofs.lemmas.Nat.{mul-le}
use Rattle.store.specs.Blocks.{blocks_gathered}
use Rattle.store.proofs.plain.PlainStore.first_blocks.Goals as goal

pub returns : goal.returns
returns c =
    let s = c.args.self.now in
    let m = mul-le c.args.count s.size s.count s.size c.requires (omega arith) in
    rw c.deref.ensures.value (blocks_gathered c.args.count s.size s.bytes.items (omega arith))
