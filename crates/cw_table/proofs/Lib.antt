mod First
pub mod Earliest
