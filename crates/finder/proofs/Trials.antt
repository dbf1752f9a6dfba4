-- The two loops over stored states and frame bytes: one trial leads on, and so do a byte that is passed over and a state with which all bytes are tried.
use mathlib.Core.Path.{◌≡◌, sym, ap, subst, ◌∙◌}
use mathlib.Core.Bool.{Bool, true, false}
use mathlib.Core.List.{List}
use Prim.Native.Nat.{ℕ, ◌+◌, ◌<◌}
use lib.ListN.{get_or}
use Rattle.std.proofs.Common.{Option}
use Rattle.code.specs.Code.{Code}
use Rattle.sequencer.specs.Stepping.{advanced_by}
use Rattle.sequencer.specs.declared.registers.Advanced.{Advanced}
use Rattle.sequencer.specs.declared.registers.Registers.{Registers}
use Rattle.paths.specs.Inner.Searching.{frame_bytes}
use Rattle.finder.specs.Inner.Explore.{Exploring, Met, Misses, CanTry, Behind}
use Rattle.table.specs.Inner.Records.{Keeps, record_at}
use Rattle.finder.specs.Inner.Flags.{PassesOver}
use Rattle.finder.proofs.Turns.{keeps_back, to_next_byte, to_next_state, to_met}

same_advanced : (a : Advanced) → a.bit ≡ false → record { bit = false; registers = a.registers } ≡ a
same_advanced a e = λ i. record { bit = sym e i; registers = a.registers }

-- One trial
module _ (code : Code) {table : List ℕ} {r : Registers} {k b ended : ℕ} {stored : Option ℕ} (t : CanTry code table r k b ended stored)
    (byte : b < frame_bytes) where
  module _ (a : Advanced) (own : a ≡ advanced_by code b r) where
    -- it leads where the record's registers lead
    led : (s : Registers) → Keeps (record_at table k) s → a ≡ advanced_by code b s
    led s keeps = own ∙ ap (advanced_by code b) (t.own s keeps)

    -- it does not satisfy
    pub misses : a.bit ≡ false → Misses code table (record { state = k; frame = b }) ended stored a.registers
    misses e =
        record {
          good = t.sound.good;
          exploring = t.exploring;
          more = t.more;
          byte = byte;
          missed = λ s keeps. same_advanced a e ∙ led s keeps;
        }

    -- it satisfies
    pub meets : a.bit ≡ true → Met code table (record { state = k; frame = b }) ended
    meets e = to_met t.exploring t.sound.good t.more byte λ s keeps. sym (ap (λ x. x.bit) (led s keeps)) ∙ e

  -- the next one, where this one is behind
  pub byte_tried : (b' : ℕ) → b + 1 ≡ b' → (after : List ℕ) (next : Option ℕ)
      → Behind code table after (record { state = k; frame = b }) ended next → CanTry code after r k b' ended next
  byte_tried b' one after next (exploring, same) =
      record {
        sound = t.sound;
        own = λ s keeps. t.own s (keeps_back _ _ same keeps);
        more = t.more;
        exploring = subst (λ i. Exploring code after k i ended next) one exploring;
      }

  -- the next one, where the byte is passed over
  pub byte_passed : (b' : ℕ) → b + 1 ≡ b' → (passed : List Bool) → PassesOver code passed → get_or passed b false ≡ true
      → CanTry code table r k b' ended stored
  byte_passed b' one passed passes own =
      record {
        sound = t.sound;
        own = t.own;
        more = t.more;
        exploring = subst (λ i. Exploring code table k i ended stored) one (to_next_byte t.exploring t.sound.good passed passes own t.more byte);
      }

-- All bytes are tried
pub state_tried : (code : Code) (table : List ℕ) (r : Registers) (k b ended : ℕ) (stored : Option ℕ) → CanTry code table r k b ended stored → b ≡ frame_bytes
    → Exploring code table (k + 1) 0 ended stored
state_tried code table r k b ended stored t all = to_next_state t.exploring t.more all
