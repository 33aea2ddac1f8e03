use Rattle.std.proofs.Common.{pos, neg_ℤ, ◌∙◌, sym, arith}
use Rattle.std.proofs.lemmas.Int.{ints}
use Rattle.keys.proofs.MomentSteps.{unfit}
use Rattle.keys.proofs.text.moment.before.Goals as goal

pub returns-in_err-checked_sub_unsigned : goal.returns-in_err-checked_sub_unsigned
returns-in_err-checked_sub_unsigned c = c.from_residual.ensures ∙ sym (unfit _ (neg_ℤ (pos c.args.number)) (grind (arith, ints)) c.in_err-checked_sub_unsigned.ensures)
