-- Refusals: each exactly when its row says so, the range that every event keeps, and what rulings go by.
pub mod Judged
pub mod Olders
pub mod Kept
pub mod Rulings
