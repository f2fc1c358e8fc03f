pub mod Offers
pub mod Picking
pub mod Selection
pub mod Working
