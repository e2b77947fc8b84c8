pub mod Filters
pub mod Runs
pub mod SlotCells
pub mod Fills
pub mod Counts
