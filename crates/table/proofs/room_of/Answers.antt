-- `room_of` meets its contract, whose definition is the lesser of the two numbers too.
use Rattle.table.specs.Room.{room_of}
use Rattle.table.proofs.room_of.Goals as goal

pub returns : goal.returns
unfolding room_of
returns c = c.min.ensures
