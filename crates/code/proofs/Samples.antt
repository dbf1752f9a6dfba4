-- The samples of code, proved together: the definitions that the contracts cite compute to each row's answer.
use mathlib.Core.Path.{refl}
use Rattle.ground.specs.Each.{Each}
use Rattle.reading.specs.InTurn.{in_turn, read_all}
use Rattle.reading.specs.Items.{item_at, numbers_from, look, instruction_codes}
use Rattle.reading.specs.Numbers.{number_at}
use Rattle.code.specs.Code.{instruction_of}
use Rattle.code.specs.Loading.{reaches_in, distance_in, code_counts, code_counted, code_too_large, check_instruction}
use Rattle.code.specs.Samples.{CodeRight, samples}

pub samples_right : Each CodeRight samples
unfolding samples read_all in_turn item_at numbers_from look instruction_codes number_at instruction_of check_instruction code_counts code_counted reaches_in
    distance_in
    code_too_large
samples_right =
    (refl, (refl, (refl, (refl, (refl, (refl, (refl, (refl, (refl, (refl, (refl, tt)))))))))))
