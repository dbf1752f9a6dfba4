-- Each public function's statement allows one answer: two results that it allows of the same arguments are equal, and so is every buffer that is lent to be
-- written. `Post` is the function's own `ensures`.
use mathlib.Core.Path.{◌≡◌}
use Rattle.code.proofs.load.Program.code.Reads as code
use Rattle.code.proofs.load.decode.Reads as decode
use Rattle.code.proofs.load.load_code.Reads as load_code

pub load_code_unique : (κs : _) (a : _) (r s : _) (x y : _) → load_code.Post κs a r x → load_code.Post κs a s y → r ≡ s
load_code_unique κs a r s x y p q = cc

pub decode_unique : (κs : _) (a : _) (r s : _) (x y : _) → decode.Post κs a r x → decode.Post κs a s y → r ≡ s
decode_unique κs a r s x y p q = cc

pub code_unique : (κs : _) (a : _) (r s : _) (x y : _) → code.Post κs a r x → code.Post κs a s y → r.now ≡ s.now
code_unique κs a r s x y p q = cc
