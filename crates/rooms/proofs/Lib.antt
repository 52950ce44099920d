pub mod Reached
pub mod Kept
pub mod Read
pub mod Round
