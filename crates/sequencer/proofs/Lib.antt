-- The theorems about the definitions, and the laws that the functions' proofs cite.
pub mod Counters
pub mod Wires
pub mod After
pub mod Through
pub mod Running
pub mod Next
pub mod Shifting
pub mod Samples
pub mod Unique
