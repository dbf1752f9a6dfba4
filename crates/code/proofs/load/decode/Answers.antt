-- `decode` meets its contract. The loop's invariant is `CodeTurn`, and each way out of a turn is one of its laws; the program is sound, as it is what loading
-- keeps. The measure is how many bytes are left.
use Rattle.std.proofs.Common.{◌≡◌, [], Some, Ok, Err, sym, ap, ◌∙◌, arith, rules}
use Rattle.ground.specs.declared.refusal.Refusal.{Refusal}
use Rattle.reading.specs.Items.{item_at}
use Rattle.reading.specs.declared.item.Table.{Table}
use Rattle.reading.proofs.InTurn.{forward, item_inside, none_refused}
use Rattle.code.specs.Loading.{code_kind, code_counts, reaches_in, distance_in, check_instruction, program_of, read_code}
use Rattle.code.proofs.Accepted.{ready}
use Rattle.code.proofs.Turns.{turn_first, turn_end, turn_refused, turn_checked, turn_room, turn_more}
use Rattle.code.proofs.load.decode.Goals as goal
use Rattle.code.proofs.load.decode.Goals.{In-Some, In_ok-more, In_default, After-pass}

-- the item that a turn reads is the definition's
is_read : (c : In-Some) → Ok (Some c.in-Some.read) ≡ item_at c.loop-read.reader.table c.loop-read.reader.bytes.now c.loop-read.reader.at
is_read c = search rules

is_item : (c : In-Some) → Ok (Some c.in-Some.read) ≡ item_at Table.Code c.args.bytes.now c.loop-read.reader.at
is_item c = rw (c.loop-read.invariant.0.own_table, c.loop-read.invariant.0.own_bytes) at (is_read c)

-- it is checked
is_next : (c : In_ok-more) → Ok c.in_ok-more.more ≡ check_instruction c.loop-read.counts c.loop-read.reader.at c.instruction_of-instruction.result
is_next c = search rules

pub returns-then-is_empty-clause-value : goal.returns-then-is_empty-clause-value
returns-then-is_empty-clause-value c = ap program_of (none_refused code_kind _ (search rules))

pub loop-read-init : goal.loop-read-init
unfolding code_counts reaches_in distance_in
loop-read-init c =
    let zero : c.default-counts.result ≡ code_counts [] = search rules in
    let at : c.new-reader.result.at ≡ 0 = search rules in
    (record { own_table = search rules; own_bytes = search rules }, rw (zero, at) (turn_first _ (search rules)))

pub returns-in_err-read-clause-value : goal.returns-in_err-read-clause-value
returns-in_err-read-clause-value c =
    let (r, e, own) : (r : Refusal) × (c.item.result ≡ Err r) × (c.from_residual.result ≡ Err r) = search rules in
    let here = rw (c.loop-read.invariant.0.own_table, c.loop-read.invariant.0.own_bytes) at c.item.ensures in
    own ∙ ap program_of (turn_refused _ _ _ _ c.loop-read.invariant.1 r (sym e ∙ here))

pub returns-in_err-more-clause-value : goal.returns-in_err-more-clause-value
returns-in_err-more-clause-value c =
    let (r, e, own) : (r : Refusal) × (c.check.result ≡ Err r) × (c.from_residual-in_err-more.result ≡ Err r) = search rules in
    own
    ∙ ap program_of (turn_checked _ _ _ _ c.loop-read.invariant.1 _ (is_item (goal.at.returns-in_err-more-clause-value c).In-Some) _
    c.instruction_of-instruction.ensures r
    (sym e ∙ c.check.ensures))

pub bounds-instructions-counts : goal.bounds-instructions-counts
bounds-instructions-counts c =
    turn_room _ _ _ _ c.loop-read.invariant.1 _ (is_item (goal.at.bounds-instructions-counts c).In-Some) _ c.instruction_of-instruction.ensures _ (is_next c)

-- past it the reader stands behind it
passed : (c : After-pass) → c.pass.new.self.at ≡ c.in-Some.read.next
passed c = search rules

pub loop-read-smaller : goal.loop-read-smaller
loop-read-smaller c =
    let here = is_item (goal.at.loop-read-smaller c).In-Some in
    omega (arith, passed c, forward _ _ _ _ _ _ _ _ (λ i. omega (arith, c.type_inv.bytes i)) here, item_inside _ _ _ _ _ _ _ _ here)

pub loop-read-preserved : goal.loop-read-preserved
loop-read-preserved c =
    let at = goal.at.loop-read-preserved c in
    let next =
    turn_more _ _ _ _ c.loop-read.invariant.1 _ (is_item at.In-Some) _ c.instruction_of-instruction.ensures _ (is_next at.In_ok-more)
    (λ i. omega (arith, c.type_inv.bytes i)) in
    let t = c.loop-read.invariant.0.own_table in
    let b = c.loop-read.invariant.0.own_bytes in
    (record { own_table = search rules; own_bytes = search rules }, rw (passed c) next)

-- at the end the program is what loading keeps
kept : (c : In_default) → Ok (record { instructions = c.loop-read.instructions; count = c.loop-read.counts.instructions })
    ≡ program_of (read_code c.args.bytes.now)
kept c = turn_end _ _ _ _ c.loop-read.invariant.1 (search rules)

pub returns-clause-value : goal.returns-clause-value
returns-clause-value c = kept c

pub returns-clause-sound : goal.returns-clause-sound
returns-clause-sound c = ready _ _ (λ i. omega (arith, c.type_inv.bytes i)) (kept c)
