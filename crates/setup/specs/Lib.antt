pub mod SetUp
pub mod Rows
pub mod Numbers
pub mod Copies
pub mod Laid
