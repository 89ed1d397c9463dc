-- What the program `smt` prints, as text.
pub mod Answer
pub mod Lent
