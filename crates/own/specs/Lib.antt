pub mod ReadYourWrites
pub mod Ended
