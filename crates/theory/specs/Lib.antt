pub mod Sums
pub mod ShareOuts
pub mod Moves
