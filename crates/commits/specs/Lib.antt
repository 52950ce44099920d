pub mod Safe
pub mod Cache
