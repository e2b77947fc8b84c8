pub mod Writes
pub mod Encodes
pub mod Logs
pub mod Records
pub mod Steps
