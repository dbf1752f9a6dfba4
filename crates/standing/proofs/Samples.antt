-- Document 01's example of the program, and samples of its other lines: the definitions that the contract cites compute to the very words.
use mathlib.Core.Path.{◌≡◌, refl, ap, ◌∙◌}
use mathlib.Core.List.{List, [], ◌∷◌}
use Prim.Native.Nat.{ℕ, ◌≤◌}
use lib.ListN.{length, drop}
use Rattle.ground.specs.Buffers.{over}
use Rattle.reading.specs.InTurn.{read_all, in_turn}
use Rattle.reading.specs.Items.{item_at, numbers_from, look, rule_codes}
use Rattle.reading.specs.Numbers.{number_at}
use Rattle.ground.specs.declared.refusal.Refusal.{Refusal}
use Rattle.rules.specs.Formula.{horizon}
use Rattle.rules.specs.Items.{item_of, apply}
use Rattle.rules.specs.Loading.{stack_from, timed_in, lower_in, rule_counts, rule_counted, bad_window, rule_too_large, check_item, read_rule}
use Rattle.table.specs.Room.{room_of}
use Rattle.samples.specs.Samples.{samples}
use Rattle.std.proofs.Common.{Some, Ok}
use Rattle.samples.proofs.Samples.{samples_right}
use Rattle.standing.specs.Standing.{standing_text, Prints}
use Rattle.text.specs.Digits.{ascii, digits_in, decimal}
use Rattle.standing.specs.Text.{spaced, met_text, none_text, refused_text}

-- the fifth rule, and the lines that the document has for it
abbrev pub fifth : List ℕ
fifth = 0x12 ∷ 0x00 ∷ 0x32 ∷ 0x02 ∷ 0x04 ∷ []

abbrev pub example : List ℕ
example = ascii "rule 5 bytes 2 items\nhorizon 4\nmet 3 frames 4 states\n00 00 01\n"

-- they are the text, with what the search finds for the rule
pub met_sample : (rest : List ℕ)
    → standing_text (length fifth) (read_rule fifth) (Ok (record { length = Some 3; states = 4 })) (0x00 ∷ 0x00 ∷ 0x01 ∷ rest) ≡ example
unfolding ascii digits_in decimal spaced read_rule read_all in_turn item_at numbers_from look rule_codes number_at check_item bad_window rule_too_large
    rule_counts
    rule_counted timed_in lower_in stack_from apply item_of horizon
met_sample rest = refl

-- so this is what `write_standing` writes for it, whatever its buffers are, if the table has room for the states and the witness buffer for horizon + 1 bytes
pub met_stands : (table witness text : List ℕ) → 4 ≤ room_of table → 5 ≤ length witness → (end : ℕ) (table' witness' text' : List ℕ)
    → Prints fifth table witness text end table' witness' text' → text' ≡ over example text
unfolding samples
met_stands table witness text room long end table' witness' text' s =
    let (found, tables, left) = samples_right.1.1.1.1.0.1 table witness room long s.found table' witness' s.says in
    let own : standing_text (length fifth) (read_rule fifth) s.found witness' ≡ example = rw (found, left) (met_sample (drop 3 witness)) in
    s.own_text ∙ ap (λ w. over w text) own

-- none, and a refusal
pub none_sample : none_text 4 ≡ ascii "none 4 states\n"
unfolding ascii digits_in decimal
none_sample = refl

pub refused_sample : refused_text (Refusal.FlagTooLarge 0) ≡ ascii "refused 5 at 0\n"
unfolding ascii digits_in decimal
refused_sample = refl

-- the words stay for a count of 1
pub one_sample : met_text 1 (0x00 ∷ []) ≡ ascii "met 1 frames 1 states\n00\n"
unfolding ascii digits_in decimal spaced
one_sample = refl

-- more digits, and the digits of frames in lower case
pub long_sample : met_text 65536 (0x9a ∷ 0xbf ∷ []) ≡ ascii "met 2 frames 65536 states\n9a bf\n"
unfolding ascii digits_in decimal spaced
long_sample = refl
