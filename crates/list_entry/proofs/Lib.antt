pub mod Determined
pub mod Onward
pub mod Promise
