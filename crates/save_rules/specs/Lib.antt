pub mod Form
pub mod Saving
pub mod Reading
pub mod Rested
pub mod Open
