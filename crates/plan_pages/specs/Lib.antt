pub mod Alone
pub mod Laid
pub mod Listing
