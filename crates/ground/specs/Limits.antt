-- The limits of document 01, each under one name, written `limits.items` in definitions and proofs. Of rules: "At most
-- 64 items, 16 of them timed, and the lower bounds a of all timed items add up to at most 256. Bounds are 0 to 255"; of
-- code: "1 to 320 instructions, at most 16 REACH, LATER distances of 1 to 255 adding up to at most 256, w at most 255";
-- of clips: "empty or over 65,535 frames"; of the search: "A record takes 80 bytes; room is .. at most 65,536".
use Rattle.std.specs.Prelude.{ℕ, ◌+◌, ◌*◌}
use Rattle.ground.specs.declared.limits.Bounds.{Bounds}
use Rattle.ground.specs.declared.limits.Limits.{Limits}

-- The same numbers as the constants of src/limits.rt
abbrev pub limits : Limits
limits =
    record {
      number = 16383;
      flag = 7;
      bound = 255;
      items = 64;
      timed = 16;
      lower = 256;
      width = 255;
      distance = 255;
      instructions = 320;
      counters = 16;
      delays = 256;
      frames = 65535;
      record_bytes = 80;
      records = 65536;
    }

-- The greatest horizon of a rule: all its timed items, one within the other, with the greatest bound each
abbrev pub most_horizon : ℕ
most_horizon = limits.bound * limits.timed

-- The most bytes of a rule: two for each item, and three more for each timed one
abbrev pub most_rule_bytes : ℕ
most_rule_bytes = 2 * limits.items + 3 * limits.timed

-- A bound on the instructions of emitted code: three for each item, and two more for each timed one
abbrev pub most_emitted : ℕ
most_emitted = 3 * limits.items + 2 * limits.timed

-- A bound on its bytes: five for an instruction, and two more for each REACH, of which a timed item has one
abbrev pub most_code_bytes : ℕ
most_code_bytes = 5 * most_emitted + 2 * limits.timed

-- These bounds, as the constants of src/limits.rt
abbrev pub bounds : Bounds
bounds = record { horizon = most_horizon; rule = most_rule_bytes; code = most_code_bytes }
