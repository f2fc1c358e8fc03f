pub mod Flags
pub mod Noted
pub mod Forms
pub mod Growing
