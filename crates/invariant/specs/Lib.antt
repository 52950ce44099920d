pub mod Inv
pub mod OwnWrites
