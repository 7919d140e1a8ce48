pub mod Faults
pub mod Packing
pub mod Reading
