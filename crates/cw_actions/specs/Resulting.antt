pub mod Texts
pub mod Idle
pub mod Outside
pub mod Written
pub mod Results
pub mod OneStatus
pub mod Laws
