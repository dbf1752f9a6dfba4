-- `write_code` meets its contract. The loop's invariant is `Left`: what is left, written where the last instruction ended, makes the whole.
use mathlib.Core.Path.{◌∙◌}
use native.Mathlib.Omega.{arith}
use Rattle.code.specs.Code.{bytes_of_instruction}
use Rattle.code.specs.declared.instruction.Instruction.TheVariants.{One}
use Rattle.emitter.proofs.Writing.{left_room, left_more, left_none, written_first}
use Rattle.emitter.proofs.write.write_code.Goals as goal

pub write_instruction-at-requires : goal.write_instruction-at-requires
write_instruction-at-requires c =
    left_room bytes_of_instruction _ _ _ _ _ _ One (omega arith) c.loop-instruction.invariant

pub loop-instruction-preserved : goal.loop-instruction-preserved
loop-instruction-preserved c =
    let wrote = c.write_instruction-at.ensures in
    left_more bytes_of_instruction _ _ _ _ _ _ One _ _ (omega arith) c.loop-instruction.invariant wrote.buffer wrote.place

pub returns : goal.returns
returns c =
    let (buffer, place) = left_none bytes_of_instruction _ _ _ _ _ _ (omega arith) c.loop-instruction.invariant in
    let (whole, end) = written_first _ _ c.requires in
    record { buffer = buffer ∙ whole; place = place ∙ end }
