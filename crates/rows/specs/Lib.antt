pub mod Refusals
pub mod Widths
pub mod Ranges
pub mod Edits
pub mod Memory
pub mod MadeRows
pub mod NarrowestRows
