pub mod Marks
pub mod NormalForm
pub mod Proper
