pub mod Table
pub mod Tables
pub mod Views
