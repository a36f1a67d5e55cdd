pub mod Foreseen
pub mod Shown
pub mod Stepped
pub mod Taken
