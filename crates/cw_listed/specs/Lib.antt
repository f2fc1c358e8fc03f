pub mod Behind
pub mod PieceLines
pub mod ProgramLines
pub mod Shown
