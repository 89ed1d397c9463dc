pub mod Words
pub mod Lefts
pub mod Agrees
pub mod Scans
pub mod Answers
