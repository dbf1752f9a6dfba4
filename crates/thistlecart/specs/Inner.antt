-- What only inner functions and proofs cite: a reader of the public statements needs none of it.
pub mod Words
pub mod Load
pub mod Search
pub mod Emit
pub mod Run
pub mod Make
