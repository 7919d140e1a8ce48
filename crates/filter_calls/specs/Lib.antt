pub mod Replays
pub mod Promises
