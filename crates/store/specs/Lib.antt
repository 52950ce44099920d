pub mod Granted
pub mod Face
