pub mod Adding
pub mod Spelling
pub mod Canonical
pub mod ExpressionTokens
pub mod ItemTokens
pub mod SegmentTokens
pub mod StatementTokens
pub mod Lexing
