pub mod Stretches
pub mod Readers
