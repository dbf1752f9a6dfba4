-- The theorems about the definitions, and the laws that the functions' proofs cite.
pub mod Instructions
pub mod Counting
pub mod Checking
pub mod Turns
pub mod Accepted
pub mod Complete
pub mod Places
pub mod Samples
pub mod Unique
