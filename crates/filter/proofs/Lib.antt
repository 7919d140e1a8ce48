pub mod Laid
pub mod Seen
pub mod Emptying
pub mod Opened
pub mod Putting
pub mod Edited
pub mod Written
