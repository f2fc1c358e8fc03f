pub mod WordLaws
pub mod Ways
pub mod Results
