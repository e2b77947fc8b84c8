pub mod Ascii
pub mod Drawing
pub mod Piece
pub mod Shows
pub mod Sight
