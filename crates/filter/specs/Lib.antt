pub mod Placement
pub mod Writes
pub mod Compared
pub mod Holds
pub mod Standing
pub mod Parts
pub mod StandsFor
