pub mod Lines
pub mod Figures
pub mod Outsider
pub mod TwiceLaws
