pub mod Given
pub mod Ends
pub mod Joined
pub mod Beginnings
