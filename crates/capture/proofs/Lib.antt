pub mod Examples
pub mod Onward
pub mod Whole
