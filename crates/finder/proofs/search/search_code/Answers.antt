-- `search_code` meets its contract: the table is made an empty index, its records are searched in, and the table is cleared behind it.
use mathlib.Core.Path.{◌≡◌, ap}
use Prim.Native.Nat.{◌*◌}
use native.Mathlib.Omega.{arith}
use Rattle.ground.specs.Limits.{limits}
use Rattle.table.specs.Room.{room_of}
use Rattle.finder.proofs.Answered.{room_fits, records_fit, can_explore}
use Rattle.finder.proofs.search.search_code.Goals as goal
use Rattle.finder.proofs.search.search_code.Goals.{After-room_of-size}

-- the records take so many bytes
own_size : (c : After-room_of-size) → c.room_of-size.result * limits.record_bytes ≡ room_of c.args.table.now * limits.record_bytes
own_size c = ap (◌* limits.record_bytes) c.room_of-size.ensures

pub overflow_mul-size : goal.overflow_mul-size
overflow_mul-size c = omega (arith, c.room_of-size.ensures, (room_fits c.args.table.now).1)

pub slice_bounds-search_in-end : goal.slice_bounds-search_in-end
slice_bounds-search_in-end c =
    records_fit _ _ c.clear.ensures _ (own_size (goal.at.slice_bounds-search_in-end c).After-room_of-size)

pub search_in-found-requires : goal.search_in-found-requires
search_in-found-requires c =
    let pre = c.requires in
    (can_explore _ _ c.clear.ensures _ (own_size (goal.at.search_in-found-requires c).After-room_of-size) _ pre.sound, pre)
