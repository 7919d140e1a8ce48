pub mod Steps
pub mod Nearest
pub mod Edges
pub mod Candidates
pub mod EditedRuns
pub mod Tables
pub mod Writing
pub mod EditAnswers
