pub mod Short
pub mod OrderSizes
pub mod TokenLayers
pub mod Expressions
pub mod Statements
pub mod Units
