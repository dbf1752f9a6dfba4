-- Document 01's marked samples, proved together: the definitions that the contracts cite compute to each row's answer.
use mathlib.Core.Path.{refl}
use Rattle.reading.specs.InTurn.{read_all, in_turn}
use Rattle.reading.specs.Items.{item_at, numbers_from, look, rule_codes}
use Rattle.reading.specs.Numbers.{number_at}
use Rattle.rules.specs.Formula.{horizon}
use Rattle.ground.specs.Each.{Each}
use Rattle.rules.specs.Items.{item_of, apply}
use Rattle.rules.specs.Loading.{stack_from, timed_in, lower_in, rule_counts, rule_counted, bad_window, rule_too_large, check_item, read_rule}
use Rattle.ground.specs.Frames.{has_flag}
use Rattle.rules.specs.Meaning.{holds, reaches, within}
use Rattle.rules.specs.Samples.{LoadedRight, from_each, samples}

pub samples_right : Each LoadedRight samples
unfolding samples from_each read_rule read_all in_turn item_at numbers_from look rule_codes number_at check_item bad_window rule_too_large rule_counts
    rule_counted
    timed_in lower_in stack_from apply item_of horizon holds reaches within has_flag
samples_right =
    (refl, (refl, (refl, (refl, (refl, (refl, (refl, (refl, (refl, (refl, (refl, (refl, (refl, (refl, (refl, (refl, (refl, (refl, (refl, tt)))))))))))))))))))
