pub mod RisingKeys
mod FlightsSlots
mod FlightsQueues
pub mod FlightsLookups
mod FlightsFirsts
mod FiledFrames
mod Places
