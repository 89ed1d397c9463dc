pub mod Printing
pub mod Tables
pub mod Answers
pub mod Emissions
