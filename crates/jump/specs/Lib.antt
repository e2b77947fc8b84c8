pub mod Numeral
pub mod Goto
pub mod Laws
