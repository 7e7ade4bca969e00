pub mod Characters
pub mod Contents
pub mod Items
pub mod Lexis
pub mod Places
pub mod Stops
pub mod Symbols
