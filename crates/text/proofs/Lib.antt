-- Laws of digits and of text behind text, for this crate's functions and those of the crates above.
pub mod Before
pub mod Decimal
pub mod Samples
pub mod Unique
pub mod Writing
