pub mod Trace
