pub mod Laws
pub mod Whole
pub mod Script
