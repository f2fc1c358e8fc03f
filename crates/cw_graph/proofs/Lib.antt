pub mod Tops
pub mod Places
pub mod Settling
pub mod Telling
pub mod Visiting
pub mod Results
pub mod Heights
pub mod Choices
