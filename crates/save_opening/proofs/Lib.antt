pub mod Examples
pub mod Laws
pub mod Onward
pub mod Whole
