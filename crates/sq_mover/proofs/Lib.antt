pub mod MoverLaws
