use Rattle.std.proofs.Common.{◌≡◌, ◌<◌, length, arith, rules}
use Rattle.std.proofs.ByRecursion.{All-from_get_or}
use Rattle.keys.specs.Digits.{written_bytes, other_length}
use Rattle.keys.proofs.bytes.exactly.Goals as goal

pub returns : goal.returns
returns g c =
    let bs = c.args.bytes.now in
    let t = c.type_inv.bytes in
    let no = other_length g.row.N bs in
    let yes : length bs ≡ g.row.N → _ = λ e. written_bytes g.row.N bs e (All-from_get_or (λ b. b < 256) bs 0 (λ i h. omega (arith, t i))) in
    search rules
