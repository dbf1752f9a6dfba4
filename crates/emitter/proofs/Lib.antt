-- The theorems about the definitions, and the laws that the functions' proofs cite.
pub mod Sizes
pub mod Accepted
pub mod Wires
pub mod Writing
pub mod Waiting
pub mod Answered
pub mod Preparing
pub mod Demand
pub mod Samples
pub mod Unique
