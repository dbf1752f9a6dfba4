-- Laws and theorems about the definitions, for this crate's functions and those of the crates above.
pub mod Agreement
pub mod Horizon
pub mod Stack
pub mod Checking
pub mod Good
pub mod Largest
pub mod Gathering
pub mod Turns
pub mod RuleBytes
pub mod Accepted
pub mod Samples
pub mod Unique
pub mod Complete
pub mod Prefixes
pub mod Places
pub mod TooLarge
pub mod Loaded
