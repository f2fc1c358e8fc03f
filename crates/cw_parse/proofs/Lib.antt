pub mod Flat
pub mod Texts
pub mod Decls
pub mod Forms
