-- Each public function's statement allows one answer: two results, and two buffers left behind, that it allows of the same arguments are equal. `Post` is the
-- function's own `ensures`.
use mathlib.Core.Path.{◌≡◌, sym, ◌∙◌}
use Rattle.reading.proofs.number.read_number.Reads as read_number
use Rattle.reading.proofs.number.write_number.Reads as write-number
use Rattle.reading.proofs.reader.read_item.Reads as read-item
use Rattle.reading.proofs.reader.Reader.new.Reads as reader-new
use Rattle.reading.proofs.reader.Reader.item.Reads as reader-item
use Rattle.reading.proofs.reader.Reader.pass.Reads as reader-pass

pub read_item_unique : (κs : _) (a : _) (r s : _) (x y : _) → read-item.Post κs a r x → read-item.Post κs a s y → r ≡ s
read_item_unique κs a r s x y p q = cc

pub new_unique : (κs : _) (a : _) (r s : _) (x y : _) → reader-new.Post κs a r x → reader-new.Post κs a s y → r ≡ s
new_unique κs a r s x y p q = cc

pub item_unique : (κs : _) (a : _) (r s : _) (x y : _) → reader-item.Post κs a r x → reader-item.Post κs a s y → r ≡ s
item_unique κs a r s x y p q = cc

pub pass_unique : (κs : _) (a : _) (r s : _) (x y : _) → reader-pass.Post κs a r x → reader-pass.Post κs a s y → x.0.now ≡ y.0.now
pass_unique κs a r s x y p q = cc

pub read_number_unique : (κs : _) (a : _) (r s : _) (x y : _) → read_number.Post κs a r x → read_number.Post κs a s y → r ≡ s
read_number_unique κs a r s x y p q = cc

pub write_number_unique : (κs : _) (a : _) (r s : _) (x y : _) → write-number.Post κs a r x → write-number.Post κs a s y → (r ≡ s) × (x.0.now ≡ y.0.now)
write_number_unique κs a r s x y p q = ((p.1 ∙ sym q.1), (p.0 ∙ sym q.0))
