pub mod Carried
pub mod Turning
pub mod ByDigits
pub mod Rivals
pub mod Ways
