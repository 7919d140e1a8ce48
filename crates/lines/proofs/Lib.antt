pub mod Kept
pub mod Pairs
pub mod Meanings
pub mod Shortness
pub mod Determined
pub mod OneOrNone
