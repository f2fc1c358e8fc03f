pub mod Adding
pub mod ExpressionLayers
pub mod Separated
pub mod StatementLayers
