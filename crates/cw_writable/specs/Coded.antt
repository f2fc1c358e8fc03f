pub mod RangedExpressions
pub mod RangedUnits
