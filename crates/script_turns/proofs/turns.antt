pub mod Laws
pub mod Going
pub mod Cut
pub mod StepLaws
pub mod Whole
pub mod Onward
pub mod Determined
pub mod Examples
