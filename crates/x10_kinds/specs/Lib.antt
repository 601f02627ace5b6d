pub mod Kinds
pub mod Labels
pub mod Limits
pub mod Equations
pub mod Laws
pub mod Ranks
