-- The theorems about the answer word, entry by entry, and the first demand.
pub mod Accessors
pub mod LoadEntry
pub mod SearchEntry
pub mod EmitEntry
pub mod RunEntry
pub mod MakeEntry
pub mod Demand
pub mod Unique
