-- What the contracts of `reading` cite.
pub mod Numbers
pub mod Items
pub mod InTurn
