pub mod Ledger
pub mod Steps
pub mod Theorems
