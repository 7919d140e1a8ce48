pub mod BitSets
pub mod Columns
pub mod ColumnTables
