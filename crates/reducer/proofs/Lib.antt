-- The theorems on the emission.
-- Truth is kept: what runs of nodes come to (Lists, Ends, Runs), which node stands for which and has its value (Stands, Kept), what constraints do
-- (Bodies, Splits), the quantifiers (Bindings, Blocks), and the theorem (Reduction).
pub mod Lists
pub mod Ends
pub mod Runs
pub mod Stands
pub mod Kept
pub mod Bodies
pub mod Splits
pub mod Bindings
pub mod Blocks
pub mod Reduction
-- Its form: as many alternations (Alternations), how large it is (Sizes), well sorted (Frames, Fit, Closed), without sets (NoSets), the claim itself
-- where that has no sets (Unchanged), and what the checker says of it (HandedBack). For words that the checker accepts: Accepted. What a limit of six sets gave: SetLimit. Tables: Examples.
pub mod Alternations
pub mod Sizes
pub mod Frames
pub mod Fit
pub mod Closed
pub mod NoSets
pub mod Unchanged
pub mod HandedBack
pub mod Accepted
pub mod SetLimit
pub mod Examples
-- The code: the constraints in the parts in which they are written (Constraints), one quantifier further (Closing).
pub mod Constraints
pub mod Joining
pub mod Becoming
pub mod Counted
pub mod Admitted
