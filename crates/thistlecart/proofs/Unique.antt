-- Each exported function's statement allows one word, and one content of each buffer that is lent to be written. `Post` is the function's own `ensures`.
use mathlib.Core.Path.{◌≡◌, sym, ap, ◌∙◌}
use Rattle.rules.specs.Loading.{read_rule}
use Rattle.finder.proofs.Unique.{says_one}
use Rattle.thistlecart.specs.Search.{found_word}
use Rattle.thistlecart.proofs.load.thistlecart_load.Reads as load
use Rattle.thistlecart.proofs.search.thistlecart_search.Reads as search
use Rattle.thistlecart.proofs.emit.thistlecart_emit.Reads as emit
use Rattle.thistlecart.proofs.run.thistlecart_run.Reads as run
use Rattle.thistlecart.proofs.make.thistlecart_negate.Reads as negate
use Rattle.thistlecart.proofs.make.thistlecart_next.Reads as next
use Rattle.thistlecart.proofs.make.thistlecart_both.Reads as both
use Rattle.thistlecart.proofs.make.thistlecart_either.Reads as either

pub load_unique : (κs : _) (a : _) (r s : _) (x y : _) → load.Post κs a r x → load.Post κs a s y → r ≡ s
load_unique κs a r s x y p q = p ∙ sym q

pub search_unique : (κs : _) (a : _) (r s : _) (x y : _) → search.Post κs a r x → search.Post κs a s y
    → (r ≡ s) × (x.1.0.now ≡ y.1.0.now) × (x.1.1.0.now ≡ y.1.1.0.now)
search_unique κs a r s x y p q =
    let (found, table, witness) = says_one a.1.0.now a.1.1.0.now _ _ _ _ _ _ (read_rule a.0.now) p.says q.says in
    (p.own_word ∙ ap found_word found ∙ sym q.own_word, table, witness)

pub emit_unique : (κs : _) (a : _) (r s : _) (x y : _) → emit.Post κs a r x → emit.Post κs a s y → (r ≡ s) × (x.1.0.now ≡ y.1.0.now)
emit_unique κs a r s x y p q = (p.own_word ∙ sym q.own_word, p.own_out ∙ sym q.own_out)

pub run_unique : (κs : _) (a : _) (r s : _) (x y : _) → run.Post κs a r x → run.Post κs a s y → (r ≡ s) × (x.1.1.0.now ≡ y.1.1.0.now)
run_unique κs a r s x y p q = (p.own_word ∙ sym q.own_word, p.own_out ∙ sym q.own_out)

pub negate_unique : (κs : _) (a : _) (r s : _) (x y : _) → negate.Post κs a r x → negate.Post κs a s y → (r ≡ s) × (x.1.0.now ≡ y.1.0.now)
negate_unique κs a r s x y p q = (p.own_word ∙ sym q.own_word, p.own_out ∙ sym q.own_out)

pub next_unique : (κs : _) (a : _) (r s : _) (x y : _) → next.Post κs a r x → next.Post κs a s y → (r ≡ s) × (x.1.0.now ≡ y.1.0.now)
next_unique κs a r s x y p q = (p.own_word ∙ sym q.own_word, p.own_out ∙ sym q.own_out)

pub both_unique : (κs : _) (a : _) (r s : _) (x y : _) → both.Post κs a r x → both.Post κs a s y → (r ≡ s) × (x.1.1.0.now ≡ y.1.1.0.now)
both_unique κs a r s x y p q = (p.own_word ∙ sym q.own_word, p.own_out ∙ sym q.own_out)

pub either_unique : (κs : _) (a : _) (r s : _) (x y : _) → either.Post κs a r x → either.Post κs a s y → (r ≡ s) × (x.1.1.0.now ≡ y.1.1.0.now)
either_unique κs a r s x y p q = (p.own_word ∙ sym q.own_word, p.own_out ∙ sym q.own_out)
