pub mod Faults
pub mod Potential
pub mod OpenFinishes
pub mod AtomicRegions
pub mod Regions
pub mod Shapes
pub mod Spots
