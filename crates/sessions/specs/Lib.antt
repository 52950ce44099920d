pub mod Starting
pub mod Reading
pub mod Asking
