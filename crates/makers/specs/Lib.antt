-- What the contracts of `makers` cite, and the makers' meaning.
pub mod Making
pub mod Meaning
