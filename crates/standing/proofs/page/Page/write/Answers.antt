-- `write` meets its contract: what is told of the rule says which lines the text has, and each is written where there is room for what is left.
use mathlib.Core.Path.{◌≡◌}
use mathlib.Core.List.{List, ◌++◌}
use Prim.Native.Nat.{ℕ, ◌≤◌}
use native.Mathlib.Omega.{arith}
use lib.ListN.{length, take}
use lib.Seq.{length-take-le}
use Rattle.std.proofs.Common.{Option, Some, IfOk, Result, Ok}
use Rattle.ground.specs.declared.refusal.Refusal.{Refusal}
use Rattle.standing.specs.declared.page.Page.{Page}
use Rattle.standing.specs.declared.standing.Standing.{Standing}
use Rattle.standing.specs.Inner.Pages.{PageRoom}
use Rattle.standing.specs.Inner.Told.{told_text}
use Rattle.standing.specs.Inner.Within.{ClipWithin}
use Rattle.standing.specs.Standing.{clip_text}
use Rattle.standing.specs.Text.{head_text}
use Rattle.standing.proofs.Pages.{LeftOn, start_by, go_on}
use Rattle.standing.proofs.page.Page.write.Goals as goal

-- at first all of the text is left, by what was found
lines : (bytes : ℕ) (witness : List ℕ) {told : Result Standing Refusal} {s : Standing} {shown : Option ℕ} {page : Page} → told ≡ Ok s → s.found.length ≡ shown
    → PageRoom page (told_text bytes told witness)
    → LeftOn page (told_text bytes told witness) page
    (head_text bytes s.loaded.items s.loaded.horizon ++ clip_text shown s.found.states witness)
lines bytes witness e f room = start_by (rw (e, f)) room

-- the clip that was found has a frame or more
some_frame : {told : Result Standing Refusal} {s : Standing} {l : ℕ} (witness : List ℕ) → told ≡ Ok s → s.found.length ≡ Some l
    → IfOk told (λ t. ClipWithin t.found witness) → 1 ≤ length (take l witness)
some_frame {told} {s} {l} witness e f within =
    let (some, inside) = rw (e, f) at within in omega (arith, length-take-le l witness inside)

pub met-requires : goal.met-requires
met-requires c =
    let left = lines c.args.bytes c.args.witness.now c.in-Ok.is c.in-Some.is c.requires.1 in
    (some_frame c.args.witness.now c.in-Ok.is c.in-Some.is c.requires.0, (go_on _ _ left c.head.ensures).room)

pub none-requires : goal.none-requires
none-requires c = (go_on _ _ (lines c.args.bytes c.args.witness.now c.in-Ok.is c.in-None.is c.requires.1) c.head.ensures).room

pub returns-in-Some : goal.returns-in-Some
returns-in-Some c =
    (go_on _ _ (lines c.args.bytes c.args.witness.now c.in-Ok.is c.in-Some.is c.requires.1) c.head.ensures).finish c.met.ensures

pub returns-in-None : goal.returns-in-None
returns-in-None c =
    (go_on _ _ (lines c.args.bytes c.args.witness.now c.in-Ok.is c.in-None.is c.requires.1) c.head.ensures).finish c.none.ensures
