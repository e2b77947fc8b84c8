pub mod Slots
pub mod Marked
pub mod Shows
