pub mod Running
pub mod Ends
pub mod Right
pub mod Called
pub mod Files
pub mod Statuses
