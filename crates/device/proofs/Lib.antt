pub mod Says
pub mod Slots
pub mod Granted
pub mod KeptOn
pub mod Plays
pub mod SymbolTakes
pub mod SameAnswers
pub mod Equality
