pub mod Space
pub mod Page
