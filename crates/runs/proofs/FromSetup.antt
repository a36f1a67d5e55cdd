-- What holds after any run from setup: what a slot can be, and how its bytes and its protection came to change.
pub mod Lasting
pub mod Reached
pub mod Together
pub mod Plain
pub mod Arrays
pub mod Story
pub mod OneStory
pub mod History
pub mod Changes
