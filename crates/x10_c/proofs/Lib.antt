mod Giving
pub mod Coming
pub mod Lines
pub mod Sent
