pub mod Layout
pub mod Checked
pub mod Lay
pub mod Loops
pub mod Bulk
pub mod Stretch
pub mod Named
