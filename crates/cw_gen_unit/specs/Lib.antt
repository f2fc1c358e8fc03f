pub mod Endings
pub mod ReferenceStatements
pub mod BuiltStatements
pub mod ReferenceUnits
pub mod BuiltUnits
pub mod LabelPlaces
pub mod SimpleLoops
pub mod BegunLoops
