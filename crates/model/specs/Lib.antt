pub mod Core
pub mod Cycle
pub mod Energy
pub mod Exact
pub mod Monotone
pub mod Tag
pub mod Settle
