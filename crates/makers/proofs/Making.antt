-- Making a rule: bytes joined in a workspace, one part behind the other, and what is said once each of the three is checked.
use mathlib.Core.Path.{◌≡◌, refl, sym, ◌∙◌}
use mathlib.Core.List.{List, [], ◌++◌, append_assoc}
use Prim.Native.Nat.{ℕ, zero, suc, ◌+◌, ◌≤◌}
use native.Mathlib.Nat.{zero-add}
use native.Mathlib.Omega.{arith}
use lib.ListN.{length, take, drop, length-append}
use lib.Seq.{take_at}
use Rattle.ground.specs.Buffers.{AllBytes, written, place_after}
use Rattle.ground.proofs.Buffers.{long_enough}
use Rattle.ground.proofs.Written.{written_length, written_fitting}
use Rattle.ground.specs.Limits.{most_rule_bytes}
use Rattle.rules.specs.Formula.{Formula}
use Rattle.std.specs.Prelude.{Ok}
use Rattle.rules.specs.Loading.{Items, Reading, accepted, refused, read_rule}
use Rattle.rules.proofs.Accepted.{accepted_rule}
use Rattle.makers.specs.Making.{negation, conjunction, disjunction, next_frame, or_else, new_made, MakesNew}
use Rattle.makers.specs.declared.make.Which.{Which}

-- one of the three that passes its check is a rule
pub passed : (which : Which) (rule : List ℕ) (x : Unit {0}) → Ok x ≡ or_else which (read_rule rule) (Ok tt)
    → (is : Items) × (f : Formula) × (read_rule rule ≡ accepted is f)
passed which rule x e = go (read_rule rule) refl e
  where
    go : (read : Reading) → read_rule rule ≡ read → Ok x ≡ or_else which read (Ok tt) → (is : Items) × (f : Formula) × (read_rule rule ≡ accepted is f)
    go (accepted is f) own e = (is, f, own)
    go (refused r) own e = cc

-- and so it is short
pub rule_short : (which : Which) (rule : List ℕ) (x : Unit {0}) → AllBytes rule → Ok x ≡ or_else which (read_rule rule) (Ok tt)
    → length rule ≤ most_rule_bytes
rule_short which rule x small e = let (is, f, own) = passed which rule x e in (accepted_rule rule is f small own).short

-- new bytes that are a rule and find room are written
pub new_length : (new out : List ℕ) (x : Unit {0}) → Ok x ≡ or_else Which.New (read_rule new) (Ok tt)
    → (out' : List ℕ) (end : ℕ) → length new ≤ length out → (out' ≡ written out 0 new) × (end ≡ place_after out 0 new)
    → MakesNew new out (Ok end) out'
new_length new out x e out' end fits (wrote, place) =
    let (is, f, own) = passed Which.New new x e in
    let (bytes, behind) = rw zero-add at (written_fitting out 0 new (omega arith)) in
    record { own_answer = rw (own, place, behind, long_enough out new (omega arith)); own_out = wrote ∙ bytes }

-- bytes stand in a workspace of some size up to an end
pub record Standing (size : ℕ) (bytes work : List ℕ) (end : ℕ) : Type 0 where
  pub own_bytes : take end work ≡ bytes
  pub own_end : end ≡ length bytes
  pub own_size : length work ≡ size
  pub inside : length bytes ≤ size

-- bytes behind those that stand there
pub standing_more : (size : ℕ) (bytes more work : List ℕ) (end : ℕ) (work' : List ℕ) (end' : ℕ) → Standing size bytes work end
    → length bytes + length more ≤ size → (work' ≡ written work end more) × (end' ≡ place_after work end more)
    → Standing size (bytes ++ more) work' end'
standing_more size bytes more work end work' end' s room (wrote, place) =
    let fits : end + length more ≤ length work = omega (arith, room, s.own_end, s.own_size) in
    let (stand, behind) = written_fitting work end more fits in
    let long : length (bytes ++ more) ≡ end + length more = omega (arith, length-append bytes more, s.own_end) in
    record {
      own_bytes =
          rw (wrote, place, behind, stand, s.own_bytes, ← append_assoc)
          (take_at (bytes ++ more) (drop (end + length more) work) (end + length more) long);
      own_end = place ∙ behind ∙ sym long;
      own_size = rw wrote (written_length work end more ∙ s.own_size);
      inside = omega (arith, long, s.own_end, room);
    }

-- the first bytes of a workspace
pub standing_first : (size : ℕ) (bytes work work' : List ℕ) (end : ℕ) → length work ≡ size → length bytes ≤ size
    → (work' ≡ written work 0 bytes) × (end ≡ place_after work 0 bytes) → Standing size bytes work' end
standing_first size bytes work work' end own room wrote =
    let none : Standing size [] work 0 = record { own_bytes = refl; own_end = refl; own_size = own; inside = omega arith } in
    standing_more size [] bytes work 0 work' end none (omega arith) wrote

-- A buffer as long as any accepted rule always holds the new bytes
pub rule_suffices : (new out : List ℕ) (is : Items) (f : Formula) → AllBytes new → read_rule new ≡ accepted is f → most_rule_bytes ≤ length out
    → new_made new out ≡ Ok (length new)
rule_suffices new out is f small read room = rw (read, long_enough out new (omega (arith, (accepted_rule new is f small read).short)))

-- What the makers append are bytes
pub negation_bytes : AllBytes negation
negation_bytes = elim [ zero ↦ omega arith | suc i ↦ omega arith ]

pub conjunction_bytes : AllBytes conjunction
conjunction_bytes = elim [ zero ↦ omega arith | suc i ↦ omega arith ]

pub disjunction_bytes : AllBytes disjunction
disjunction_bytes = elim [ zero ↦ omega arith | suc i ↦ omega arith ]

pub next_bytes : AllBytes next_frame
next_bytes = elim [ zero ↦ omega arith | suc zero ↦ omega arith | suc (suc zero) ↦ omega arith | suc (suc (suc i)) ↦ omega arith ]
