pub mod Examples
pub mod Whole
