use Rattle.std.proofs.Common.{pos, ◌∙◌, sym, arith}
use Rattle.std.proofs.lemmas.Int.{ints}
use Rattle.keys.proofs.MomentSteps.{unfit}
use Rattle.keys.proofs.text.moment.after.Goals as goal

pub returns-in_err-checked_add_unsigned : goal.returns-in_err-checked_add_unsigned
returns-in_err-checked_add_unsigned c = c.from_residual.ensures ∙ sym (unfit _ (pos c.args.number) (grind (arith, ints)) c.in_err-checked_add_unsigned.ensures)
