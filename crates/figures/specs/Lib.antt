pub mod Figures
pub mod Rows
