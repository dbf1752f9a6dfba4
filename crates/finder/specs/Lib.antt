-- What the contracts of `finder` cite.
pub mod Search
pub mod Demand
pub mod Inner
