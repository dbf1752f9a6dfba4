-- The theorems about the text, and the laws that the functions' proofs cite.
pub mod Frames
pub mod Lengths
pub mod Pages
pub mod Said
pub mod Samples
pub mod Stands
pub mod Unique
