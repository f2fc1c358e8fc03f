mod FirstPlaces
mod Keeping
mod Looking
mod Defining
pub mod Telling
mod Outermost
