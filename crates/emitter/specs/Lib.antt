-- What the contracts of `emitter` cite.
pub mod Translation
pub mod Emit
pub mod Prepare
pub mod Demand
pub mod Samples
pub mod Inner
