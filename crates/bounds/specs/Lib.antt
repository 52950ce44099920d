pub mod Formed
pub mod Pairs
pub mod Ceiling
