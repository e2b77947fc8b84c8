pub mod Log
pub mod Recorded
