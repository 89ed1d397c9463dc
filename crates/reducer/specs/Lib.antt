-- What the reducer answers (Reduced), what the promises on the emission's size and form speak of (Sizes), and what the code asks and writes (Closing).
pub mod Reduced
pub mod Sizes
pub mod Closing
