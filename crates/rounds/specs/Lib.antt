pub mod Lag
pub mod Round
pub mod RoundLists
