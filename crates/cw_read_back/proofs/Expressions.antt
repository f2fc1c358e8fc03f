pub mod Back
pub mod ExpressionLayers
pub mod Expressions
pub mod Leaves
pub mod Reading
pub mod Simple
pub mod Stays
