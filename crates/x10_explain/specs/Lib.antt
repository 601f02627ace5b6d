pub mod Heads
pub mod Verdicts
