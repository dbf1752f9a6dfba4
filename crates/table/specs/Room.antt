-- How many records a table has. Document 01: "A record takes 80 bytes; room is the table's length divided by 80,
-- rounded down, at most 65,536."
use Rattle.std.specs.Prelude.{List, ℕ, ◌/◌, min, length}
use Rattle.ground.specs.Limits.{limits}

-- Room: how many records a table has
unfoldable pub room_of : List ℕ → ℕ
room_of table = min (length table / limits.record_bytes) limits.records
