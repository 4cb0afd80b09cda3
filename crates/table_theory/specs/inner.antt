pub mod Best
pub mod First
pub mod Written
