pub mod Printout
pub mod Length
pub mod Reaches
pub mod Run
pub mod Begun
pub mod Parts
pub mod Page
