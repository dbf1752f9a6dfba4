-- The bits of code behind code: what stands before keeps its bits, and each instruction has one.
use mathlib.Core.Path.{◌≡◌, refl, sym, ◌∙◌}
use mathlib.Core.Bool.{false}
use mathlib.Core.List.{List, [], ◌∷◌, ◌++◌}
use Prim.Native.Nat.{ℕ, ◌+◌, ◌<◌}
use native.Mathlib.Nat.{add-zero}
use native.Mathlib.Omega.{arith}
use lib.ListN.{length, length-append, get_or-append}
use Rattle.sequencer.specs.Bits.{Wire, wire, wire_of, wires_from}
use Rattle.code.specs.Code.{Code}

pub wires_append : (ws : List Wire) (c d : Code) → wires_from ws (c ++ d) ≡ wires_from (wires_from ws c) d
unfolding wires_from
wires_append ws [] d = refl
wires_append ws (i ∷ c) d = wires_append (ws ++ wire_of ws i ∷ []) c d

pub wires_length : (ws : List Wire) (c : Code) → length (wires_from ws c) ≡ length ws + length c
unfolding wires_from
wires_length ws [] = sym (add-zero (length ws))
wires_length ws (i ∷ c) =
    let e = wires_length (ws ++ wire_of ws i ∷ []) c in
    let l = length-append ws (wire_of ws i ∷ []) in
    omega arith

pub wires_old : (ws : List Wire) (c : Code) (i : ℕ) → i < length ws → wire (wires_from ws c) i ≡ wire ws i
unfolding wires_from
wires_old ws [] i h = refl
wires_old ws (k ∷ c) i h =
    wires_old (ws ++ wire_of ws k ∷ []) c i (rw length-append (omega arith))
    ∙ get_or-append ws (wire_of ws k ∷ []) (λ c. false) i h
