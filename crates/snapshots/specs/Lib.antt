pub mod TransactionKept
pub mod Ever
pub mod SnapshotRead
pub mod ReadAnswer
