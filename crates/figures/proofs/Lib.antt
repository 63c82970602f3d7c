pub mod BestRows
pub mod Questions
pub mod Greatest
