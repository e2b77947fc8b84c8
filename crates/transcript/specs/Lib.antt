pub mod Faults
pub mod Reading
pub mod Showing
pub mod ByHand
pub mod Outcomes
