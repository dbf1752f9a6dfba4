-- What only inner functions and proofs cite: a reader of the public statements needs none of it.
pub mod Emission
pub mod Writing
