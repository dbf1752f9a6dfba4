-- The samples of emitted code, proved together: the definitions that the contracts cite compute to each row's answer.
use mathlib.Core.Path.{refl}
use lib.ListN.{drop}
use Rattle.ground.specs.Each.{Each}
use Rattle.ground.specs.Frames.{has_flag}
use Rattle.reading.specs.InTurn.{in_turn, read_all, bytes_of_all}
use Rattle.reading.specs.Items.{item_at, numbers_from, look, rule_codes, instruction_codes}
use Rattle.reading.specs.Numbers.{number_at, number_bytes}
use Rattle.rules.specs.Items as rule
use Rattle.rules.specs.Loading as rule-loading
use Rattle.sequencer.specs.Bits.{next, counter, later, wire_of, wires_from, output}
use Rattle.code.specs.Code.{instruction_of, bytes_of_instruction}
use Rattle.code.specs.Loading.{reaches_in, distance_in, code_counts, code_counted, code_too_large, check_instruction}
use Rattle.sequencer.specs.Running.{verdicts, bad_clip}
use Rattle.emitter.specs.Translation.{later_by, timed, item_code, translate}
use Rattle.emitter.specs.Samples.{EmittedRight, samples}

pub samples_right : Each EmittedRight samples
unfolding later_by samples read_all in_turn item_at numbers_from look rule_codes instruction_codes number_at number_bytes bytes_of_all rule.item_of rule.apply
    rule-loading.stack_from rule-loading.timed_in rule-loading.lower_in rule-loading.rule_counts rule-loading.rule_counted rule-loading.bad_window
    rule-loading.rule_too_large rule-loading.check_item rule-loading.read_rule instruction_of bytes_of_instruction check_instruction code_counts code_counted
    reaches_in distance_in code_too_large verdicts bad_clip output wires_from wire_of counter next later has_flag timed item_code translate
samples_right =
    let answered : Each EmittedRight (drop 15 samples) = ((refl, refl), ((refl, refl), ((refl, refl), ((refl, refl), tt)))) in
    (refl, (refl, ((refl, refl), (refl, (refl, (refl, (refl, (refl, (refl, (refl, (refl, (refl, (refl, (refl, (refl, answered)))))))))))))))
