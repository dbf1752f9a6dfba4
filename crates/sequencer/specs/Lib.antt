-- What the contracts of `sequencer` cite.
pub mod Bits
pub mod Registers
pub mod After
pub mod Stepping
pub mod Running
pub mod Samples
pub mod Inner
