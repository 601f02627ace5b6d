pub mod Stats
pub mod Tallies
pub mod Paces
pub mod Counts
pub mod Lines
pub mod Laws
pub mod Entries
pub mod MachineRuns
