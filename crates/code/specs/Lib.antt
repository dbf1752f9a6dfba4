-- What the contracts of `code` cite.
pub mod Code
pub mod Loading
pub mod Good
pub mod Programs
pub mod Samples
