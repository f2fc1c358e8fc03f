pub mod Reports
pub mod Gathering
pub mod Answers
pub mod Marks
pub mod Statements
