pub mod Each
pub mod Parts
pub mod Tests
pub mod Stores
pub mod Same
pub mod Laid
pub mod Alike
pub mod Chunks
