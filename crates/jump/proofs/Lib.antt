mod Faults
mod Stands
mod Targets
