pub mod Lent
pub mod ShareOuts
pub mod States
