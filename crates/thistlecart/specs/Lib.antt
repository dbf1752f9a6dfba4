-- What the contracts of `thistlecart` cite: the answer word and the header's accessors, then entry by entry its word,
-- what that tells, its statement and its part of the first demand; and the demand, which gathers the parts.
pub mod Words
pub mod Accessors
pub mod Load
pub mod Search
pub mod Emit
pub mod Run
pub mod Make
pub mod Demand
pub mod Inner
