pub mod SlotTables
pub mod SlotTableLaws
