-- `frames` meets its contract. The loop's invariant: the frames from the next one on, and the line's end, are what is left of the line.
use mathlib.Core.List.{◌++◌}
use lib.ListN.{drop}
use Rattle.text.specs.Digits.{ascii}
use Rattle.standing.specs.Text.{spaced, frames_text}
use Rattle.standing.proofs.Pages.{LeftOn}
use Rattle.standing.proofs.page.Page.frames.Given as goal

abbrev pub invariant-loop-frame : goal.invariant-loop-frame
invariant-loop-frame l = LeftOn l.fn.self (frames_text l.frames) l.self (spaced (drop l.frame-index l.frame-items) ++ ascii "\n")
