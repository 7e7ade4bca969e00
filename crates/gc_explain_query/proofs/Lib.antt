mod Nested
mod Printing
