pub mod Fields
pub mod Known
pub mod Questions
pub mod Uses
