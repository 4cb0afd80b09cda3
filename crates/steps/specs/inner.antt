pub mod Leading
pub mod Ranking
