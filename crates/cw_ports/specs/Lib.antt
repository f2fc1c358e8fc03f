pub mod Later
pub mod Laws
pub mod Pieces
pub mod Running
pub mod Supplies
pub mod Concluding
pub mod Sides
