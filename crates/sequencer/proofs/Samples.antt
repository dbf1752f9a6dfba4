-- The samples of runs, proved together: the definitions that the contracts cite compute to each row's answer.
use mathlib.Core.Path.{refl}
use Rattle.ground.specs.Each.{Each}
use Rattle.ground.specs.Frames.{has_flag}
use Rattle.reading.specs.InTurn.{in_turn, read_all}
use Rattle.reading.specs.Items.{item_at, numbers_from, look, instruction_codes}
use Rattle.reading.specs.Numbers.{number_at}
use Rattle.sequencer.specs.Bits.{next, counter, later, wire_of, wires_from, output}
use Rattle.code.specs.Code.{instruction_of}
use Rattle.code.specs.Loading.{reaches_in, distance_in, code_counts, code_counted, code_too_large, check_instruction}
use Rattle.sequencer.specs.Running.{verdicts, bad_clip}
use Rattle.sequencer.specs.Samples.{RanRight, samples}

pub samples_right : Each RanRight samples
unfolding samples read_all in_turn item_at numbers_from look instruction_codes number_at instruction_of check_instruction code_counts code_counted reaches_in
    distance_in
    code_too_large verdicts bad_clip output wires_from wire_of counter next later has_flag
samples_right =
    ((refl, refl), ((refl, refl), ((refl, refl), ((refl, refl), ((refl, refl), tt)))))
