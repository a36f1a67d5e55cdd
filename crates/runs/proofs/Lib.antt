pub mod Document
pub mod TwoClerks
pub mod FromSetup
