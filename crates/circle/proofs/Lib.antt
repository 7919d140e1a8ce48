pub mod Circle
pub mod Stretches
pub mod Ascending
pub mod Ranges
pub mod Runs
pub mod Untouched
pub mod Rows
