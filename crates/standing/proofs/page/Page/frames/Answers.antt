-- `frames` meets its contract. The loop's invariant: the frames from the next one on, and the line's end, are what is left of the line.
use Rattle.text.specs.Digits.{ascii}
use Rattle.standing.proofs.Frames.{first_frame, no_frame, rest_frames, frame_behind}
use Rattle.standing.proofs.Pages.{start_by, go_on}
use Rattle.standing.proofs.page.Page.frames.Goals as goal

pub loop-frame-init : goal.loop-frame-init
loop-frame-init c =
    rw (rest_frames c.args.frames.now) (go_on _ _ (start_by (first_frame c.args.frames.now c.requires.0) c.requires.1) c.frame.ensures)

pub loop-frame-preserved : goal.loop-frame-preserved
unfolding ascii
loop-frame-preserved c = frame_behind _ _ c.loop-frame.invariant c.loop-frame-test.true c.word.ensures c.frame-in-loop-frame.ensures

pub returns : goal.returns
unfolding ascii
returns c = (rw (no_frame _ _ c.loop-frame-test.false) at c.loop-frame.invariant).finish c.word-2.ensures
