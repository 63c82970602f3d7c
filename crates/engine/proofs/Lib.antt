pub mod Asked
pub mod Charging
mod EdgeLemmas
pub mod Keying
mod MemoryLemmas
pub mod Settling
pub mod Starting
