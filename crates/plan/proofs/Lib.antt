pub mod Fits
pub mod Laws
pub mod Whole
pub mod Printed
pub mod Promise
pub mod Examples
