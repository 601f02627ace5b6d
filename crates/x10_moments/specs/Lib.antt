pub mod Changes
pub mod Moments
pub mod Pages
pub mod Recorders
