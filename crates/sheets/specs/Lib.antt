pub mod Format
pub mod Reading
pub mod Theorems
