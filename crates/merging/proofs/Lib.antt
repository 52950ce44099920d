pub mod Merge
pub mod Sets
