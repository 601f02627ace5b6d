pub mod Faults
pub mod Misfits
pub mod Headers
pub mod Views
pub mod Parts
pub mod Written
