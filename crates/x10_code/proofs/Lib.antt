pub mod Operations
pub mod Instructions
pub mod CodecLemmas
pub mod Unused
