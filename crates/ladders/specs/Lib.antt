pub mod Sized
pub mod Unknown
pub mod Full
pub mod Checked
