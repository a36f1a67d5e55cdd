pub mod Asked
pub mod Went
pub mod Program
pub mod Printed
