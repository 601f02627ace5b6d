pub mod Fronts
pub mod Runs
pub mod Loops
pub mod TableLoops
pub mod Parts
