pub mod Handles
pub mod Held
pub mod Histories
pub mod Marks
pub mod Opened
pub mod Stations
pub mod Worlds
