-- What is believed of a claim's text for a solver: the sentences and what they mean (Smt), what a solver asks of their form (Formed), the sentence of
-- a claim (Sentences), its text (Text, with Bytes), that text line by line (Lines), and what a reader of it answers (Reading, with Scan).
pub mod Bytes
pub mod Smt
pub mod Formed
pub mod Sentences
pub mod Text
pub mod Lines
pub mod Scan
pub mod Reading
