pub mod Decimal
pub mod Letters
pub mod Open
pub mod Quoted
pub mod Records
