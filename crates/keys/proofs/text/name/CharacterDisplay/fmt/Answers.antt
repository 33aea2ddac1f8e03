use Rattle.keys.proofs.Shown.{prints_same, shows_padding, shows_space, shows_sign, shows_plain}
use Rattle.keys.proofs.text.name.CharacterDisplay.fmt.Goals as goal

pub returns-then-self-eq0-clause-writes : goal.returns-then-self-eq0-clause-writes
returns-then-self-eq0-clause-writes g c =
    prints_same g.W.Write.write_str_gives c.args.f.now c.write.result _ _ c.write.new.self (shows_padding c.args.self.now.0 c.if-self-eq0.true) c.write.ensures.writes

pub returns-then-self-eq32-clause-writes : goal.returns-then-self-eq32-clause-writes
returns-then-self-eq32-clause-writes g c =
    prints_same g.W.Write.write_str_gives c.args.f.now c.write-then-self-eq32.result _ _ c.write-then-self-eq32.new.self (shows_space c.args.self.now.0 c.if-self-eq32.true) c.write-then-self-eq32.ensures.writes

pub returns-then-self-eq37-clause-writes : goal.returns-then-self-eq37-clause-writes
returns-then-self-eq37-clause-writes g c =
    prints_same g.W.Write.write_str_gives c.args.f.now c.write-then-self-eq37.result _ _ c.write-then-self-eq37.new.self (shows_sign c.args.self.now.0 c.if-self-eq37.true) c.write-then-self-eq37.ensures.writes

pub returns-clause-writes : goal.returns-clause-writes
returns-clause-writes g c =
    prints_same g.W.Write.write_str_gives c.args.f.now c.write-2.result _ _ c.write-2.new.self
    (shows_plain c.args.self.now.0 c.from-character.result c.if-self-eq0.false c.if-self-eq32.false c.if-self-eq37.false c.from-character.ensures) c.write-2.ensures.writes
