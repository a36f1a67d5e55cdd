-- Document 01 and requests P3 and P9 held against the definitions of runs.
pub mod Addressed
pub mod Cuts
pub mod Olders
