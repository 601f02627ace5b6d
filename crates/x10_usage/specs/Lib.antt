pub mod Tasks
pub mod Usages
