pub mod Bools
pub mod Numbers
pub mod Refusing
