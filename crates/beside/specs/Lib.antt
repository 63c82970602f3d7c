pub mod Answer
pub mod Lent
pub mod Memory
pub mod Rules
pub mod Sides
pub mod Tally
