pub mod NumberKinds
pub mod EntryParts
