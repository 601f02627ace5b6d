pub mod Fields
pub mod GrownHeaps
pub mod Laid
pub mod LaidTexts
