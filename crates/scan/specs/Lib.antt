pub mod Number
pub mod Groups
pub mod Sections
pub mod Examples
