pub mod Runs
pub mod Loads
pub mod Linking
pub mod Goes
pub mod Laws
pub mod Apart
