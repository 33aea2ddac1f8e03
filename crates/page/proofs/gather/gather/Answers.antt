use Rattle.page.proofs.Gathers.{gathered}
use Rattle.page.proofs.gather.gather.Goals as goal

pub returns : goal.returns
returns g c =
    record {
      gathered = λ n m low d h. gathered g.K.Key.kind g.met.K.Key.lawful c.args.lo.now c.args.hi.now n m low c.args.leaf.now.page.now d h c.args.leaf.now.whole c.args.leaf.now.bytes c.args.taken c.args.buffer.now c.requires
          c.gather_rows.result c.gather_rows.new.buffer c.gather_rows.ensures.walked;
      within = c.gather_rows.ensures.within;
    }
