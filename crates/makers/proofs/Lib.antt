-- The theorems about the makers.
pub mod Making
pub mod Meaning
pub mod OnlyTooLarge
pub mod Unique
