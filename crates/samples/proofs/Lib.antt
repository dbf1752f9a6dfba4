-- That every row is right.
pub mod Samples
