pub mod Compare
pub mod Agrees
