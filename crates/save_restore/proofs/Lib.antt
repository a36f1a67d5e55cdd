pub mod Tally
pub mod Laws
pub mod Determined
