pub mod KeptSteps
pub mod StepFormed
pub mod WellFormedKept
pub mod Bound
pub mod Pairs
pub mod Ceiling
