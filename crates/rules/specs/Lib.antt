pub mod Merges
pub mod Meanings
pub mod Exact
pub mod Covers
pub mod States
pub mod Places
