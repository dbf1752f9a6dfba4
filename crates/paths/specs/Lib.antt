-- What the contracts of `finder` cite of the search over any step function, and an executable model of it, which no
-- contract cites.
pub mod Order
pub mod Answers
pub mod Inner
