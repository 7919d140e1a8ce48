pub mod States
pub mod Answers
pub mod Levels
pub mod KeptBeside
pub mod KeptBesideLaws
pub mod Exchanges
pub mod Replays
pub mod SymbolLaws
