pub mod Trimmed
pub mod Behind
pub mod Pieces
pub mod SoFar
