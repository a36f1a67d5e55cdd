-- Document 01 held against the law: its marked cases, its tables row by row, and its sentences.
pub mod Cases
pub mod Tables
pub mod Commands
pub mod Sensing
pub mod Deaf
pub mod Exchange
pub mod Cycle
pub mod Cut
pub mod Joined
pub mod Flags
pub mod Reader
pub mod Looking
pub mod Older
pub mod Former
pub mod Pins
