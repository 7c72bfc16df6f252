pub mod MoverValue
pub mod MoverTurns
