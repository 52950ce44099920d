pub mod TransactionKept
pub mod Ever
pub mod SnapshotRead
pub mod LaterView
pub mod LaterRead
pub mod ReadAnswer
