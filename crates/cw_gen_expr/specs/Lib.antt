pub mod KnownValues
pub mod Pieces
pub mod Output
pub mod ReferenceExpressions
pub mod BuiltExpressions
pub mod UnitTables
pub mod ReferenceEntries
pub mod NamedItems
