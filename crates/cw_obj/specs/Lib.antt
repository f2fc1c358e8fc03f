pub mod Migration
pub mod ReferenceObject
pub mod Writable
