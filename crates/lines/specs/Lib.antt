pub mod Numbers
pub mod Lines
pub mod Theorems
pub mod Printed
pub mod Buffers
