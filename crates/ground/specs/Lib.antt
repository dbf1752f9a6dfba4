-- What the contracts of `ground` cite, and those of the crates above share: limits, refusals, frames and clips, bytes
-- in buffers, and lists in arrays.
pub mod Limits
pub mod Refusals
pub mod Frames
pub mod Buffers
pub mod Each
pub mod Padded
pub mod Stacked
