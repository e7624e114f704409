pub mod Lines
pub mod HexText
pub mod Codes
pub mod Laws
pub mod CodeLaws
