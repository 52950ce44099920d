pub mod Frame
pub mod Facts
pub mod Step
pub mod Setup
pub mod Tally
pub mod Ladders
pub mod Calls
