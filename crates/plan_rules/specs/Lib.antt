pub mod Records
pub mod Plan
pub mod Effect
