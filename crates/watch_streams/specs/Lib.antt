pub mod Texts
pub mod Steps
pub mod Reading
pub mod Open
