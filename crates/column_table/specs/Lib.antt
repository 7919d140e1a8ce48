pub mod Columns
pub mod ColumnTables
pub mod ColumnTableLaws
