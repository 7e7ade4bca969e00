pub mod Ends
pub mod Keys
pub mod Numbers
pub mod Readers
pub mod Settings
pub mod WholeRows
