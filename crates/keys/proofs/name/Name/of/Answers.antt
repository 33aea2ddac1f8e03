use Rattle.std.proofs.Common.{sym, refl}
use Rattle.keys.specs.NameLaws.{name_there, no_name}
use Rattle.keys.proofs.name.Name.of.Goals as goal

pub returns-then-not-is_padded : goal.returns-then-not-is_padded
returns-then-not-is_padded c = sym (no_name c.args.all (cc))

pub returns : goal.returns
returns c = sym (name_there c.args.all _ refl)
