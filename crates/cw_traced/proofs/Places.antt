pub mod Told
pub mod Named
pub mod Places
pub mod Joined
