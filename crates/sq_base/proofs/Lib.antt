pub mod BodyLaws
pub mod FieldLaws
pub mod HandleLaws
pub mod NameLaws
pub mod StampLaws
