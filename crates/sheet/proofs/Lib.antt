pub mod Rows
pub mod Copies
pub mod Extended
pub mod Opened
pub mod SheetFaults
pub mod CodesByIndex
pub mod OpenedFaults
pub mod RoundTrips
