pub mod Back
pub mod Comments
pub mod Data
pub mod Forms
pub mod Specifications
pub mod Spelled
pub mod StatementLayers
pub mod Statements
