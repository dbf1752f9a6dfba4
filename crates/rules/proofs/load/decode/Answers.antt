-- `decode` meets its contract. The loop's invariant is `RuleTurn`, and each way out of a turn is one of its laws. The measure is how many bytes are left.
use Rattle.std.proofs.Common.{◌≡◌, ◌<◌, ℕ, List, sym, ap, ◌∙◌, Some, Ok, Err, arith, rules}
use Rattle.std.proofs.lemmas.Bool.Decides.{nat_tests}
use Rattle.ground.specs.declared.refusal.Refusal.{Refusal}
use Rattle.reading.specs.Items.{AtPlace, Over, item_at}
use Rattle.reading.specs.declared.item.Table.{Table}
use Rattle.reading.specs.declared.reader.Reader.{Reader}
use Rattle.reading.proofs.InTurn.{forward, item_inside}
use Rattle.rules.specs.Loading.{rule_of}
use Rattle.rules.proofs.Turns.{empty_rule, turn_first, turn_end, turn_refused, turn_checked, turn_more}
use Rattle.rules.proofs.load.decode.Goals as goal
use Rattle.rules.proofs.load.decode.Goals.{In-Some, After-pass}

-- what the reader tells of its place is the definition's
told : {bytes : List ℕ} {reader : Reader} (s : AtPlace) → Over Table.Rule bytes reader → s ≡ item_at reader.table reader.bytes.now reader.at
    → s ≡ item_at Table.Rule bytes reader.at
told s o e = rw (o.own_table, o.own_bytes) at e

-- so is the item that it reads, and it leads on
is_item : (c : In-Some) → Ok (Some c.in-Some.read) ≡ item_at Table.Rule c.args.bytes.now c.loop-read.reader.at
is_item c = ap Ok (sym c.in-Some.is) ∙ sym c.in_ok-read.was ∙ told _ c.loop-read.invariant.0 c.item.ensures

read_on : (c : In-Some) → c.loop-read.reader.at < c.in-Some.read.next
read_on c = forward _ _ _ _ _ _ _ _ (λ i. omega (arith, c.type_inv.bytes i)) (is_item c)

pub returns-then-is_empty : goal.returns-then-is_empty
returns-then-is_empty c = empty_rule _ (grind (arith, nat_tests))

pub loop-read-init : goal.loop-read-init
loop-read-init c =
    let at : c.new-reader.result.at ≡ 0 = search rules in
    (record { own_table = search rules; own_bytes = search rules }, rw at (turn_first _ _ (λ h. grind (arith, nat_tests)) c.new-gathered.ensures))

pub returns-in_err-read : goal.returns-in_err-read
returns-in_err-read c =
    let (r, e, f) : (r : Refusal) × (c.item.result ≡ Err r) × (c.from_residual.result ≡ Err r) = search rules in
    f ∙ turn_refused _ _ _ c.loop-read.invariant.1 r (sym e ∙ told _ c.loop-read.invariant.0 c.item.ensures)

pub returns-in_err-push : goal.returns-in_err-push
returns-in_err-push c =
    let t = c.loop-read.invariant.1 in
    let (r, e, f) : (r : Refusal) × (c.push.result ≡ Err r) × (c.from_residual-in_err-push.result ≡ Err r) = search rules in
    let bad = rw (e, c.item_of-item.ensures) at (c.push.ensures t.items t.gathers) in
    f ∙ turn_checked _ _ _ t _ _ _ _ _ (is_item (goal.at.returns-in_err-push c).In-Some) r bad

-- past it the reader stands behind it
passed : (c : After-pass) → c.pass.new.self.at ≡ c.in-Some.read.next
passed c = search rules

pub loop-read-smaller : goal.loop-read-smaller
loop-read-smaller c =
    let at = (goal.at.loop-read-smaller c).In-Some in
    omega (arith, passed c, read_on at, item_inside _ _ _ _ _ _ _ _ (is_item at))

pub loop-read-preserved : goal.loop-read-preserved
loop-read-preserved c =
    let t = c.loop-read.invariant.1 in
    let at = (goal.at.loop-read-preserved c).In-Some in
    let (fine, gathers) = rw c.item_of-item.ensures at (c.in_ok-push.ensures t.items t.gathers) in
    let table = c.loop-read.invariant.0.own_table in
    let bytes = c.loop-read.invariant.0.own_bytes in
    let next = turn_more _ _ _ t _ _ _ _ _ (is_item at) _ fine (read_on at) gathers in
    (record { own_table = search rules; own_bytes = search rules }, rw (passed c) next)

pub returns : goal.returns
returns c =
    let t = c.loop-read.invariant.1 in
    let here = told _ c.loop-read.invariant.0 c.item.ensures in
    c.at_end.ensures t.items t.gathers ∙ ap rule_of (turn_end _ _ _ t (ap Ok (sym c.in_default.is) ∙ sym c.in_ok-read.was ∙ here))
