pub mod Numbers
pub mod Items
pub mod Bytes
pub mod Unique
pub mod InTurn
