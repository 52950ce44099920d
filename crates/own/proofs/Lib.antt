pub mod ReadYourWrites
pub mod Carried
pub mod Ended
