pub mod Parts
pub mod Replies
pub mod StandsFor
pub mod Closing
pub mod Sessions
pub mod Theorems
pub mod SessionStands
pub mod Loops
