-- The table of samples, and what it is for a row to be right.
pub mod Samples
