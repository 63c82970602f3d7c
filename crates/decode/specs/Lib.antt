pub mod Entries
pub mod Cells
pub mod Nets
pub mod Words
pub mod Pilots
pub mod Decode
pub mod Holds
