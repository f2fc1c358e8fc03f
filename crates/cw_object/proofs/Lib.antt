pub mod Fitting
pub mod Short
pub mod Written
pub mod Telling
pub mod Opening
pub mod Images
