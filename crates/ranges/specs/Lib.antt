pub mod RangeRows
pub mod FromZero
pub mod SeveralRanges
pub mod RangesWithin
pub mod Building
