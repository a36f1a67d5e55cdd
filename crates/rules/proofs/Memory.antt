-- The memory: when its bytes and its protection change, and to what.
pub mod First
pub mod Stored
pub mod Protection
pub mod Sensorless
