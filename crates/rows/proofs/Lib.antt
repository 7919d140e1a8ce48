pub mod Writing
pub mod Widths
pub mod Ranges
pub mod RowTexts
pub mod SameRows
pub mod MadeRows
