pub mod Capture
pub mod Agreement
pub mod Open
