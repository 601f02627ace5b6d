pub mod PlaceSets
pub mod Flights
