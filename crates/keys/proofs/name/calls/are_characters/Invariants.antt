use Rattle.std.proofs.Common.{◌≡◌, drop}
use Rattle.keys.specs.Padding.{all_characters}
use Rattle.keys.proofs.name.calls.are_characters.Given as goal

abbrev pub invariant-loop-byte : goal.invariant-loop-byte
invariant-loop-byte l = all_characters l.bytes ≡ all_characters (drop l.byte-index l.bytes)
