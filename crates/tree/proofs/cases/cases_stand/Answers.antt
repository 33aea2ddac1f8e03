use Rattle.std.proofs.Common.{refl}
use Rattle.keys.specs.Bytes.{all_bytes}
use Rattle.keys.specs.Moments.{moment_at}
use Rattle.tree.proofs.cases.cases_stand.Goals as goal
use Rattle.tree.specs.Entries.{lookup, part, rises, see_entries, write_entries}
use Rattle.tree.specs.Heads.{see_head}
use Rattle.tree.specs.Nodes.{kids_fit, see_node}
use Rattle.tree.specs.Plans.{reading, run}
use Rattle.tree.specs.Walks.{walk}

pub returns : goal.returns
unfolding all_bytes moment_at lookup part rises see_entries write_entries see_head kids_fit see_node reading run walk
returns c = refl
