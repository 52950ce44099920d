pub mod Blocks
pub mod Counts
pub mod Passing
pub mod Sums
