-- What only inner functions cite.
pub mod Writing
pub mod Before
