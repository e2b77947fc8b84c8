pub mod Labels
pub mod Tables
pub mod Texts
