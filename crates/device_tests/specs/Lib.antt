pub mod OneSlots
pub mod Counts
pub mod CountLaws
