pub mod Read
pub mod Runs
