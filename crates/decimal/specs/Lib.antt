-- Decimal numbers in text: what is read out of a text, what is put into one, and how.
pub mod Reading
pub mod Printing
