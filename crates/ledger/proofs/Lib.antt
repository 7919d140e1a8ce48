pub mod Rows
pub mod Edits
pub mod Example
