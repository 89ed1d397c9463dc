-- What the programs print, as text.
pub mod Answer
pub mod Lines
