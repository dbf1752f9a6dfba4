-- What the contracts of `rules` cite.
pub mod Formula
pub mod Meaning
pub mod Items
pub mod Loading
pub mod Accepted
pub mod Loaded
pub mod Samples
pub mod Inner
