pub mod Json
pub mod Values
pub mod Objects
pub mod Kinds
pub mod Frames
pub mod Stays
pub mod Parts
pub mod Laws
