-- The laws that the functions' proofs cite, and those of the crates above.
pub mod Chains
pub mod Records
pub mod Keys
pub mod Tables
pub mod Unique
