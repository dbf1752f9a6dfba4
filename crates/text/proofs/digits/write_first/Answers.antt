-- `write_first` meets its contract: the tests say whether there is room for the word, the digit and so many more, and if there is both are written.
use native.Mathlib.Omega.{arith}
use mathlib.Core.Path.{◌≡◌, refl}
use mathlib.Core.List.{List, ◌++◌}
use Prim.Native.Nat.{ℕ, ◌+◌, ◌≤◌, ◌<◌}
use lib.ListN.{length, length-append}
use Rattle.text.specs.Digits.{decimal}
use Rattle.text.proofs.Decimal.{one_long}
use Rattle.text.proofs.Writing.{puts_more}
use Rattle.text.proofs.digits.write_first.Goals as goal

-- how long the word and the digit are
both_long : (word : List ℕ) (n : ℕ) → n < 10 → length (word ++ decimal n) ≡ length word + 1
both_long word n h = rw (length-append, one_long n h)

pub returns-in_err-checked_sub : goal.returns-in_err-checked_sub
returns-in_err-checked_sub c =
    rw c.from_residual.ensures (omega (arith, both_long c.args.word.now c.args.n c.requires, c.in_err-checked_sub.ensures), refl)

pub returns-in_err-room : goal.returns-in_err-room
returns-in_err-room c =
    rw c.from_residual-in_err-room.ensures
    (omega (arith, both_long c.args.word.now c.args.n c.requires, c.in_ok-checked_sub.ensures, c.in_err-room.ensures), refl)

pub returns-then-room-word : goal.returns-then-room-word
returns-then-room-word c =
    (omega (arith, both_long c.args.word.now c.args.n c.requires, c.in_ok-checked_sub.ensures, c.in_ok-room.ensures), refl)

pub returns : goal.returns
returns c =
    let fits : c.args.at + (length (c.args.word.now ++ decimal c.args.n) + c.args.more) ≤ length c.args.text.now =
    omega (arith, both_long c.args.word.now c.args.n c.requires, c.in_ok-checked_sub.ensures, c.in_ok-room.ensures) in (
      fits,
      puts_more c.args.text.now c.args.at c.args.word.now (decimal c.args.n) (omega arith)
          (c.write_bytes-place.ensures.buffer, c.write_bytes-place.ensures.place) c.write_digit.ensures,
    )
