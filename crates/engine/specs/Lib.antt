pub mod Lent
pub mod Refusals
pub mod Steps
