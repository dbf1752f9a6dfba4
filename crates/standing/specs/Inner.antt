-- What only inner functions cite.
pub mod Pages
pub mod Within
pub mod Told
