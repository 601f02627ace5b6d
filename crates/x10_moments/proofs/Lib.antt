pub mod Pieces
pub mod Moments
pub mod Words
