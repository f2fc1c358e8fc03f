pub mod Derived
pub mod Bodies
pub mod Bases
pub mod Items
pub mod Free
