-- The theorems about the definitions, and the laws that the functions' proofs cite.
pub mod Naming
pub mod Turns
pub mod Trials
pub mod Witness
pub mod Answered
pub mod Demand
pub mod Unique
pub mod Small
