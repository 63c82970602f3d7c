pub mod Exact
pub mod Cover
pub mod Charge
pub mod Tag
pub mod Settle
pub mod Follow
pub mod Sound
pub mod Tallies
