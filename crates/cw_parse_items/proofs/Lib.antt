pub mod Seen
pub mod Typed
pub mod Communicators
pub mod Elems
pub mod Places
