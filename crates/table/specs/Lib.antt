-- What the contracts of `table` cite.
pub mod Room
pub mod Inner
