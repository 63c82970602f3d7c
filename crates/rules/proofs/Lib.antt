pub mod Exactly
pub mod Levels
