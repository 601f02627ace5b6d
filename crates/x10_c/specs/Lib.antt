pub mod Numbers
pub mod Calls
pub mod Settling
pub mod Handles
