pub mod Laws
pub mod Going
pub mod Onward
pub mod Determined
