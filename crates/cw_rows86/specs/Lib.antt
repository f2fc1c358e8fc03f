pub mod Locations
pub mod Operations
pub mod Acts
pub mod AddressCode
