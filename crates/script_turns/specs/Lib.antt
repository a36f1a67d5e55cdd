pub mod Frame
pub mod Open
pub mod Program
pub mod Script
pub mod Steps
