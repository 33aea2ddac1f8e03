use Rattle.std.proofs.Common.{rules}
use Rattle.std.proofs.lemmas.List.{get_or_past}
use Rattle.numerals.specs.Decimals.{number_in}
use Rattle.keys.proofs.MomentSteps.{none_after}
use Rattle.keys.proofs.text.moment.MomentText.parse.Goals as goal

pub returns-in_err-number_below-in_default : goal.returns-in_err-number_below-in_default
returns-in_err-number_below-in_default c =
    let n = none_after (number_in c.args.word.now) c.in_err-number_below-in_default.ensures.value in
    search (rules, get_or_past)
