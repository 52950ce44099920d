pub mod Safe
pub mod ClockAfter
pub mod Installing
pub mod Sending
pub mod Installed
pub mod Delivering
