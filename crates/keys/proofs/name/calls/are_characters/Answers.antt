use Rattle.std.proofs.Common.{rules}
use Rattle.keys.specs.NameLaws.{characters_more, characters_all}
use Rattle.keys.proofs.name.calls.are_characters.Goals as goal

pub returns-then-not-is_character : goal.returns-then-not-is_character
returns-then-not-is_character c = search (rules, characters_more)

pub loop-byte-preserved : goal.loop-byte-preserved
loop-byte-preserved c = search (rules, characters_more)

pub returns : goal.returns
returns c = search (rules, characters_all)
