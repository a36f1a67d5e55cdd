-- What no event changes, and what every event keeps: from one act of one slot to any run of the bench.
pub mod Cases
pub mod Unchanged
pub mod Everywhere
pub mod Joined
