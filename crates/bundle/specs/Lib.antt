pub mod Bodies
pub mod Contents
pub mod Faults
pub mod Format
pub mod Kinds
