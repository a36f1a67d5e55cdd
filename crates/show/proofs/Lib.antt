pub mod Whole
pub mod Examples
