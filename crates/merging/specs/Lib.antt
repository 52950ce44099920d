pub mod Stamps
pub mod Merge
