-- The theorems about the definitions.
pub mod Order
pub mod Counting
pub mod Unique
pub mod Clips
pub mod Turns
pub mod Ends
pub mod Model
