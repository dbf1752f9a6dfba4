-- The statements of the public functions but `store` allow one answer: two results that one allows of the same arguments are equal, and so is a buffer that is
-- lent to be written. `Pre` and `Post` are the function's own `requires` and `ensures`. A look-up answers the last record that keeps the registers.
use mathlib.Core.Path.{◌≡◌}
use Rattle.table.proofs.Chains.{last_one}
use Rattle.table.proofs.Records.{registers_one}
use Rattle.table.proofs.clear.Reads as clear
use Rattle.table.proofs.find.Reads as find
use Rattle.table.proofs.frame_at.Reads as frame_at
use Rattle.table.proofs.link_at.Reads as link_at
use Rattle.table.proofs.registers_at.Reads as registers-at
use Rattle.table.proofs.room_of.Reads as room_of

pub room_of_unique : (κs : _) (a : _) (r s : _) (x y : _) → room_of.Post κs a r x → room_of.Post κs a s y → r ≡ s
room_of_unique κs a r s x y p q = cc

pub clear_unique : (κs : _) (a : _) (r s : _) (x y : _) → clear.Post κs a r x → clear.Post κs a s y → x.0.now ≡ y.0.now
clear_unique κs a r s x y p q = cc

pub registers_at_unique : (κs : _) (a : _) (r s : _) (x y : _) → registers-at.Post κs a r x → registers-at.Post κs a s y → r ≡ s
registers_at_unique κs a r s x y p q = registers_one p q

pub link_at_unique : (κs : _) (a : _) (r s : _) (x y : _) → link_at.Post κs a r x → link_at.Post κs a s y → r ≡ s
link_at_unique κs a r s x y p q = cc

pub frame_at_unique : (κs : _) (a : _) (r s : _) (x y : _) → frame_at.Post κs a r x → frame_at.Post κs a s y → r ≡ s
frame_at_unique κs a r s x y p q = cc

pub find_unique : (κs : _) (a : _) (r s : _) (x y : _) → find.Pre κs a → find.Post κs a r x → find.Post κs a s y → r ≡ s
find_unique κs a r s x y (stored, filled) p q = last_one _ stored r s (p stored filled) (q stored filled)
