pub mod UnitFits
