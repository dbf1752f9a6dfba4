-- `try_length` meets its contract. Before each state the trials of the length stand where `Tries` says, and before each frame byte where `CanTry` says; no
-- trial has satisfied.
use mathlib.Core.Path.{◌≡◌}
use Prim.Native.Nat.{◌<◌}
use Rattle.std.proofs.Common.{None}
use Rattle.paths.specs.Inner.Searching.{frame_bytes}
use Rattle.finder.specs.Inner.Explore.{CanTry, Tries}
use Rattle.finder.proofs.explore.try_length.Given as goal

abbrev pub invariant-all : goal.invariant-all
invariant-all l = Tries l.code l.passed l.table l.state l.ended l.stored × (l.met ≡ None)

abbrev pub invariant-loop-frame : goal.invariant-loop-frame
invariant-loop-frame l = CanTry l.code l.table l.registers l.state l.frame l.ended l.stored × (l.met ≡ None) × (l.frame < frame_bytes)
