pub mod Orders
pub mod Checks
pub mod Records
mod Enlisting
pub mod Holders
pub mod Batches
pub mod Tables
pub mod Changes
