pub mod Logs
pub mod Limits
pub mod Reading
