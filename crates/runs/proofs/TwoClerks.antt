-- Demand 3: two clerks at one bench.
pub mod Alone
pub mod Parse
pub mod Classes
pub mod Foreign
pub mod Struck
pub mod Apart
pub mod Sharp
pub mod Controls
pub mod RunAnswers
pub mod Demand3
pub mod Joined
pub mod Swap
pub mod Stretches
pub mod Instances
