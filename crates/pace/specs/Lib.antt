pub mod Moments
pub mod Formulas
pub mod Counting
