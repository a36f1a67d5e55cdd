pub mod Laws
pub mod Onward
pub mod Determined
