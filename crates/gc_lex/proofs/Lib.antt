pub mod Bodies
pub mod WordFronts
pub mod Digits
pub mod Progress
pub mod Enough
pub mod ItemBounds
