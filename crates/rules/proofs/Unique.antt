-- Each public function's statement allows one answer: two results that it allows of the same arguments are equal. `Post` is the function's own `ensures`.
use mathlib.Core.Path.{◌≡◌}
use Rattle.rules.proofs.load.load.Reads as load
use Rattle.rules.proofs.load.decode.Reads as decode
use Rattle.rules.proofs.load.Rule.items.Reads as items
use Rattle.rules.proofs.load.Rule.loaded.Reads as loaded
use Rattle.rules.proofs.item.row_of.Reads as row_of
use Rattle.rules.proofs.item.item_of.Reads as item_of

pub load_unique : (κs : _) (a : _) (r s : _) (x y : _) → load.Post κs a r x → load.Post κs a s y → r ≡ s
load_unique κs a r s x y p q = cc

pub decode_unique : (κs : _) (a : _) (r s : _) (x y : _) → decode.Post κs a r x → decode.Post κs a s y → r ≡ s
decode_unique κs a r s x y p q = cc

pub items_unique : (κs : _) (a : _) (r s : _) (x y : _) → items.Post κs a r x → items.Post κs a s y → r.now ≡ s.now
items_unique κs a r s x y p q = cc

pub loaded_unique : (κs : _) (a : _) (r s : _) (x y : _) → loaded.Post κs a r x → loaded.Post κs a s y → r ≡ s
loaded_unique κs a r s x y p q = cc

pub row_of_unique : (κs : _) (a : _) (r s : _) (x y : _) → row_of.Post κs a r x → row_of.Post κs a s y → r ≡ s
row_of_unique κs a r s x y p q = cc

pub item_of_unique : (κs : _) (a : _) (r s : _) (x y : _) → item_of.Post κs a r x → item_of.Post κs a s y → r ≡ s
item_of_unique κs a r s x y p q = cc
