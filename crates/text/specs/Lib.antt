pub mod Gap
pub mod Hex
pub mod Refusals
pub mod Scalars
pub mod Utf8
pub mod Walks
