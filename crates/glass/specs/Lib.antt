pub mod Row
pub mod Calls
pub mod Ties
pub mod Performed
