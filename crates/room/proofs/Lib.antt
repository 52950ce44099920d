pub mod Checked
pub mod Words
pub mod Lay
pub mod StretchLaws
pub mod Named
