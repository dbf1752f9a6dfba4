-- Below ten the digit is written behind the word; else those of the number's tenth part are, if one byte more fits behind them, and the last digit behind them.
use Rattle.std.proofs.Common.{◌%◌, arith}
use Rattle.text.specs.Digits.{decimal}
use Rattle.text.proofs.Before.{before_stays, before_more}
use Rattle.text.proofs.Decimal.{one_long, last_behind}
use Rattle.text.proofs.digits.+write_before.Goals as goal

pub returns-in_err-place : goal.returns-in_err-place
returns-in_err-place t c =
    rw (c.from_residual.ensures, last_behind c.args.word.now c.args.n c.if-n-lt10.false)
    (before_stays _ _ _ c.args.more _ (decimal (c.args.n % 10)) (one_long (c.args.n % 10) (omega arith)) c.in_err-place.ensures)

pub returns : goal.returns
returns t c =
    rw (last_behind c.args.word.now c.args.n c.if-n-lt10.false)
    (before_more _ _ _ c.args.more _ (decimal (c.args.n % 10)) (one_long (c.args.n % 10) (omega arith)) c.in_ok-place.ensures c.write_digit.ensures)
