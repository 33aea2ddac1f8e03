use Rattle.std.proofs.Common.{◌≡◌, ◌+◌, ◌-◌, ◌*◌, ◌^◌, ◌≤◌, true, get_or, drop, sym, ap, ◌∙◌, arith, rules}
use Rattle.numerals.specs.Decimals.{below, is_digit}
use Rattle.numerals.proofs.DecimalSteps.{number_empty, number_start, number_more, number_stop, number_end, too_large}
use Rattle.numerals.proofs.decimal.number_below.Goals as goal

pub returns-then-is_empty : goal.returns-then-is_empty
returns-then-is_empty c = search (rules, number_empty)

pub loop-digit-init : goal.loop-digit-init
loop-digit-init c = search (rules, number_start)

pub returns-then-not-is_ascii_digit : goal.returns-then-not-is_ascii_digit
returns-then-not-is_ascii_digit c = search (rules, number_stop)

pub returns-in_err-number : goal.returns-in_err-number
returns-in_err-number c =
    let cs = c.args.digits.now in
    let n = c.loop-digit.number in
    let i = c.loop-digit.digit-index in
    let large : 2 ^ 64 ≤ n * 10 + (get_or cs i 0 - 48) = omega (arith, c.in_err-number.ensures) in
    let digit : is_digit (get_or cs i 0) ≡ true = search rules in
    record {
      value = c.from_residual.ensures
          ∙ sym
          (ap (below c.args.limit) (c.loop-digit.invariant ∙ number_more n cs i (omega arith) digit)
          ∙ too_large c.args.limit (n * 10 + (get_or cs i 0 - 48)) (drop (i + 1) cs) (omega arith));
      bound = search rules;
    }

pub loop-digit-preserved : goal.loop-digit-preserved
loop-digit-preserved c = search (rules, number_more)

pub returns-then-number-limit : goal.returns-then-number-limit
returns-then-number-limit c = search (rules, number_end)

pub returns-else-number-limit : goal.returns-else-number-limit
returns-else-number-limit c = search (rules, number_end)
