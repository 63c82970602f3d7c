pub mod Record
pub mod Split
pub mod Runs
pub mod Escape
pub mod Wait
pub mod Bounds
pub mod Text
