pub mod Numbered
pub mod Fronts
