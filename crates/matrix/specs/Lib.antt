-- What the contracts cite: bounds of terms (Bound), the sets' values over final regions (Final), the table of patterns (Entry), how a node's
-- number is worked out (Work), in which order (Order, Arranged), and what the array of values holds (Known).
pub mod Bound
pub mod Final
pub mod Entry
pub mod Work
pub mod Order
pub mod Arranged
pub mod Known
