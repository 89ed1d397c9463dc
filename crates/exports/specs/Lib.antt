-- What the exported functions put into a lent row.
pub mod Rows
