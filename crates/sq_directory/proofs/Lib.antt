pub mod DirectoryLaws
pub mod MakerLaws
pub mod PolicyLaws
pub mod StoredLaws
pub mod ListingLaws
