pub mod Counter
pub mod Foyer
pub mod LabelText
pub mod Labels
pub mod Ranges
