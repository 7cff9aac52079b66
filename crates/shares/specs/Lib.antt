pub mod Marks
pub mod Cells
pub mod Links
pub mod Stations
pub mod Tables
pub mod Reaches
pub mod Levels
pub mod Plans
