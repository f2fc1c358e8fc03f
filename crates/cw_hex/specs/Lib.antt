pub mod HexFormat
pub mod HexText
pub mod HexTold
