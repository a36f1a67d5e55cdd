pub mod Heeded
pub mod ReadOut
pub mod Signals
