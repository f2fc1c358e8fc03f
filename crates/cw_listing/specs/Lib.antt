pub mod Lines
pub mod Tables
pub mod Listing
pub mod Remarks
pub mod CodeListing
