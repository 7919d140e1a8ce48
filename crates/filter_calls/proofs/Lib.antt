pub mod Told
pub mod ToldInFull
pub mod Kept
pub mod Written
pub mod Equality
