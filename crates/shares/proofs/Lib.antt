mod Sizes
mod Cut
mod Reaching
mod Stepping
pub mod Facts
mod Blocks
mod Leading
mod Shifting
pub mod Planned
pub mod Ordering
mod Picking
pub mod Exhausting
mod Outreaching
mod Placing
