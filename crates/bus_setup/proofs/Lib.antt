pub mod Mapped
pub mod Determined
