pub mod Fonts
