-- Laws of the definitions, for this crate's functions and those of the crates above.
pub mod Choices
pub mod Each
pub mod Padded
pub mod Stacked
pub mod Written
pub mod Buffers
pub mod Refusals
pub mod Unique
