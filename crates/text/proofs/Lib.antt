pub mod Sequences
pub mod Spellings
pub mod Readings
pub mod Encodings
pub mod Backwards
