-- What the contracts of `text` cite.
pub mod Digits
pub mod Samples
pub mod Inner
