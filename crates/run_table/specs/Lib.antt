pub mod Tables
pub mod NewRuns
pub mod EditedSets
pub mod Answers
