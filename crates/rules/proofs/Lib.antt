pub mod Document
pub mod Range
pub mod Run
pub mod Memory
pub mod Registers
pub mod Past
