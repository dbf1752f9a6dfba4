-- What the contracts of `standing` cite.
pub mod Text
pub mod Standing
pub mod Inner
