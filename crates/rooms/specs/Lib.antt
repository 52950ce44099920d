pub mod Refused
pub mod Reached
pub mod Read
pub mod Round
pub mod Stretch
