pub mod Taken
pub mod DecideTaken
pub mod Readers
pub mod Stretches
