-- What loops need of the emission, one step further (Steps) and how long it is (Lengths); a claim in its words (Claims); the laws of writing
-- (Writing), of what the quantifiers give (Frames), of the parts of runs (Parts), and of going node by node (Walk).
pub mod Lengths
pub mod Steps
pub mod Claims
pub mod Writing
pub mod Frames
pub mod Parts
pub mod Walk
pub mod Ready
pub mod Sets
pub mod Kindwise
