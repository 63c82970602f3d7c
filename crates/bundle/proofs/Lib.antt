pub mod Asked
pub mod RowFacts
pub mod WholeFacts
