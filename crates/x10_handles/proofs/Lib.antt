pub mod Behind
pub mod Parts
pub mod Stepping
pub mod BehindWorld
pub mod Histories
