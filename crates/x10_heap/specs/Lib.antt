pub mod Heaps
pub mod Laid
pub mod LaidTexts
pub mod References
pub mod Words
