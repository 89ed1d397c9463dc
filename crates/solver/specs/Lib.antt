-- What is believed of the writer: what it answers (Written), what its functions put (Pieces) and ask of a table (Laid), and where it goes (Sinks).
pub mod Pieces
pub mod Laid
pub mod Sinks
pub mod Written
